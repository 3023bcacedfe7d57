-- A front by its list of places.
use Rattle.std.specs.Prelude.{◌≡◌, ℕ, List, Some, Ok, Err, vec_items, Option, Result, slice_index_or}
use Rattle.device.specs.declared.interface.Kind.{Kind}
use Rattle.device.specs.declared.interface.Cause.{Cause}
use Rattle.device.specs.declared.interface.Request.{Request}
use Rattle.tickets.specs.declared.place.Place.{Place}
use Rattle.tickets.specs.declared.front.Front.{Front}
use Rattle.tickets.specs.Meant.{place_of}
use Rattle.tickets.specs.Front.{blank, admitted_to, due_place}
use Rattle.tickets.specs.Places.{index_of, first_waiting}

-- the places of the open tickets, the oldest first
abbrev pub places_of : Front → List Place
places_of f = vec_items f.places

-- where the oldest waiting ticket stands
abbrev pub oldest_of : Front → Option ℕ
oldest_of f = first_waiting (places_of f)

-- the kind under which a request is accepted, or the cause that refuses it
abbrev pub admission : Front → Request → ℕ → Result Kind Cause
admission f q given = admitted_to f.size f.capacity (places_of f) q given

-- the place that a collect answers, or the cause that refuses it
abbrev pub answered_place : Front → (tag room : ℕ) → Result Place Cause
answered_place f tag room = due_place (place_of tag (places_of f)) room

-- the i-th place
abbrev pub place_at : Front → ℕ → Place
place_at f i = slice_index_or (places_of f) i blank

-- where the place stands that a collect answers, or the cause that refuses it
abbrev pub Due : Front → (tag room : ℕ) → Result ℕ Cause → Type 0
Due f tag room (Ok i) = (index_of tag (places_of f) ≡ Some i) × (answered_place f tag room ≡ Ok (place_at f i))
Due f tag room (Err c) = answered_place f tag room ≡ Err c

-- what stays for life
pub record SameFront (f f' : Front) : Type 0 where
  pub size : f'.size ≡ f.size
  pub capacity : f'.capacity ≡ f.capacity
  pub named : f'.named ≡ f.named
