-- What is asked of a list of places.
use Rattle.std.specs.Prelude.{ℕ, not, List, Option, slice_get}
use Rattle.std.specs.List.{position_from}
use Rattle.std.specs.Option.{option_map}
use Rattle.device.specs.Lookup.{index_by}
use Rattle.tickets.specs.declared.place.Place.{Place}

-- a place goes by its tag
abbrev pub by_tag : Place → ℕ
by_tag p = p.tag

-- where the place of a tag stands
abbrev pub index_of : ℕ → List Place → Option ℕ
index_of t ps = index_by by_tag 0 t ps

-- where the oldest that waits stands
abbrev pub first_waiting : List Place → Option ℕ
first_waiting ps = position_from (λ p. not p.ready) 0 ps

-- the tag at the i-th place, from 0
abbrev pub tag_of : ℕ → List Place → Option ℕ
tag_of i ps = option_map (λ p. p.tag) (slice_get ps i)
