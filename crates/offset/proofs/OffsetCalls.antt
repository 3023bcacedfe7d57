-- The calls of an offset, by what the device below does.
use Rattle.std.proofs.Common.{◌≡◌, ℕ, zero, suc, ◌+◌, ◌-◌, ◌^◌, ◌≤◌, min, Bool, true, false, cond, not, ◌&&◌, eqb, ltb, List, [], ◌∷◌, ◌++◌, length, Some, None, Ok, Err, Option, Result, map, sym, refl, ap, ◌∙◌, subst, inr, ap₂, add_assoc, arith}
use mathlib.Core.Path.{fun_ext}
use Rattle.std.specs.Option.{option_map}
use Rattle.std.specs.Result.{MatchResult, IsErrAnd, result_map_both}
use Rattle.std.proofs.lemmas.Bool.Decides.{nat_tests}
use Rattle.std.proofs.lemmas.Bool.{cond_both}
use Rattle.std.proofs.lemmas.List.{length-map, map-append}
use Rattle.device.specs.declared.interface.Kind.{Kind}
use Rattle.device.specs.declared.interface.Kind.TheVariants.{Read, Write, Flush}
use Rattle.device.specs.declared.interface.Cause.{Cause}
use Rattle.device.specs.declared.interface.Cause.TheVariants as causes
use Rattle.device.specs.declared.interface.Request.{Request}
use Rattle.device.specs.declared.interface.Refusal.{Refusal}
use Rattle.device.specs.Layers.{layer_height}
use Rattle.device.specs.Meaning.{Meaning, Ticket, Contents, is_write, is_flush, covers, mask_of, bytes_of, written, with_disk}
use Rattle.device.specs.Submit.{fair_count, form, tag_is_open, admitted_as, admitted, due_bytes, ticket_of, disk_after, accepted, submitted_as, submitted, submit_answer_as, submit_answer}
use Rattle.device.specs.Collect.{found, without, due_as, due, collect_answer_as, collect_answer, collected_as, collected, buffer_as, buffer_after}
use Rattle.device.specs.Questions.{tag_at, state_as, state_of, byte_count_as, byte_count}
use Rattle.device.specs.Turns.{Turned, Readied, Flushed, waiting, waiting_write_at, open_write_at}
use Rattle.device.specs.Sound.{Each}
use Rattle.device.specs.Numbers.{kind_of}
use Rattle.device.specs.Told.{Told, submit}
use Rattle.device.proofs.Forms.{form_ok, form_from, form_kind}
use Rattle.device.proofs.TurnFacts.{each_readied, each_more}
use Rattle.offset.specs.Means.{room, shifted, over, Lies, Within}
use Rattle.offset.specs.Turn.{moved, Acts}
use Rattle.offset.specs.SoundFacts.{open_shifted, flush_order_shifted, bad_in, mask_shifted}

-- an answer, a refusal with another height
abbrev pub at_height : {T : Type 0} → ℕ → Result T Refusal → Result T Refusal
at_height h r = result_map_both (λ x. x) (λ f. record { cause = f.cause; height = h }) r

-- what `map_err` leaves of an answer
pub mapped : {T : Type 0} (Q : Refusal → Refusal → Type 0) (h : ℕ) (r a : Result T Refusal) → MatchResult r (λ x. a ≡ Ok x) (λ f. IsErrAnd a (Q f))
    → ((f y : Refusal) → Q f y → y ≡ record { cause = f.cause; height = h }) → a ≡ at_height h r
mapped Q h (Ok x) a p q = p
mapped Q h (Err f) (Ok x) p q = absurd p
mapped Q h (Err f) (Err y) p q = ap Err (q f y p)

-- what was `Ok` behind a `map_err` was so before
pub passed : {T E F : Type 0} (Q : E → F → Type 0) (r : Result T E) (a : Result T F) (k : T) → MatchResult r (λ x. a ≡ Ok x) (λ e. IsErrAnd a (Q e)) → a ≡ Ok k → r ≡ Ok k
passed Q (Ok x) a k p e = cc
passed Q (Err f) (Ok x) k p e = absurd p
passed Q (Err f) (Err y) k p e = cc

-- The height stays

submitted_height : (r : Result Kind Cause) (m : Meaning) (q : Request) (d : List ℕ) → (submitted_as r m q d).height ≡ m.height
submitted_height (Ok k) m q d = refl
submitted_height (Err c) m q d = refl

pub height_submitted : (m m' : Meaning) (q : Request) (d : List ℕ) → m' ≡ submitted m q d → m'.height ≡ m.height
height_submitted m m' q d e = ap (λ (z : Meaning). z.height) e ∙ submitted_height (admitted m q (length d)) m q d

collected_height : (r : Result Ticket Cause) (m : Meaning) (t : ℕ) → (collected_as r m t).height ≡ m.height
collected_height (Ok x) m t = refl
collected_height (Err c) m t = refl

pub height_collected : (m m' : Meaning) (t space : ℕ) → m' ≡ collected m t space → m'.height ≡ m.height
height_collected m m' t space e = ap (λ (z : Meaning). z.height) e ∙ collected_height (due m t space) m t

-- Questions

pub tag_at_shifted : (base i : ℕ) (ts : List Ticket) → tag_at i (map (shifted base) ts) ≡ tag_at i ts
tag_at_shifted base i [] = refl
tag_at_shifted base zero (t ∷ ts) = refl
tag_at_shifted base (suc i) (t ∷ ts) = tag_at_shifted base i ts

module _ (base t : ℕ) where
  found_shifted : (ts : List Ticket) → found t (map (shifted base) ts) ≡ option_map (shifted base) (found t ts)
  found_shifted [] = refl
  found_shifted (x ∷ xs) = grind (arith, nat_tests, found_shifted xs)

  state_same : (o : Option Ticket) → state_as (option_map (shifted base) o) ≡ state_as o
  state_same None = refl
  state_same (Some x) = refl

  count_same : (o : Option Ticket) → byte_count_as (option_map (shifted base) o) ≡ byte_count_as o
  count_same None = refl
  count_same (Some x) = refl

  pub state_shifted : (ts : List Ticket) → state_of t (map (shifted base) ts) ≡ state_of t ts
  state_shifted ts = ap state_as (found_shifted ts) ∙ state_same (found t ts)

  pub count_shifted : (ts : List Ticket) → byte_count t (map (shifted base) ts) ≡ byte_count t ts
  count_shifted ts = ap byte_count_as (found_shifted ts) ∙ count_same (found t ts)

-- Turn

write_shifted : (k : Kind) (base first count s : ℕ) → (is_flush k ≡ false → base ≤ first)
    → (is_write k && covers (first - base) count s) ≡ (is_write k && covers first count (base + s))
write_shifted Read base first count s le = refl
write_shifted Write base first count s le = let down = le refl in grind (arith, nat_tests)
write_shifted Flush base first count s le = refl

waiting_shifted : (base : ℕ) (ts : List Ticket) → waiting (map (shifted base) ts) ≡ waiting ts
waiting_shifted base [] = refl
waiting_shifted base (t ∷ ts) = cc (waiting_shifted base ts)

readied_shifted : (base : ℕ) {ts us : List Ticket} → Readied ts us → Readied (map (shifted base) ts) (map (shifted base) us)
readied_shifted base Readied.none = Readied.none
readied_shifted base (Readied.stays r) = Readied.stays (readied_shifted base r)
readied_shifted base (Readied.turns h r) = Readied.turns h (readied_shifted base r)

module _ (base n size : ℕ) where
  waiting_at : (s : ℕ) (ts : List Ticket) → Each (Lies base n size) ts → waiting_write_at s (map (shifted base) ts) ≡ waiting_write_at (base + s) ts
  waiting_at s [] l = refl
  waiting_at s (t ∷ ts) l =
      cc (write_shifted t.kind base t.first t.count s (λ f. (l.0 f).0), waiting_at s ts l.1)

  open_at : (s : ℕ) (ts : List Ticket) → Each (Lies base n size) ts → open_write_at s (map (shifted base) ts) ≡ open_write_at (base + s) ts
  open_at s [] l = refl
  open_at s (t ∷ ts) l =
      cc (write_shifted t.kind base t.first t.count s (λ f. (l.0 f).0), open_at s ts l.1)

  flushed_shifted : (disk medium : Contents) (ts us : List Ticket) → Each (Lies base n size) us → Flushed disk medium ts us
      → Flushed (λ s. disk (base + s)) (λ s. medium (base + s)) (map (shifted base) ts) (map (shifted base) us)
  flushed_shifted disk medium [] us l f = tt
  flushed_shifted disk medium (t ∷ ts) [] l f = tt
  flushed_shifted disk medium (t ∷ ts) (u ∷ us) l f = (
    (λ k w r s o. f.0 k w r (base + s) (sym (open_at s us l.1) ∙ o)),
    flushed_shifted disk medium ts us l.1 f.1,
  )

lies_readied : (base n size : ℕ) {ts us : List Ticket} → Readied ts us → Each (Lies base n size) ts → Each (Lies base n size) us
lies_readied base n size r l = each_readied (Lies base n size) (λ t p. p) r l

module _ (base n : ℕ) (m m' : Meaning) (ticks : ℕ) (t : Turned m m' ticks) where
  pub turn_within : Within base n m → Within base n m'
  turn_within l = subst (λ z. Each (Lies base n z) m'.tickets) (sym t.shape.size) (lies_readied base n m.size t.readied l)

  pub turn_over : Within base n m → Turned (over base n m) (over base n m') ticks
  turn_over l = record {
    shape = record {
      size = ap (room base n) t.shape.size;
      capacity = t.shape.capacity;
      height = ap (λ h. min (h + 1) 255) t.shape.height;
      bad = ap₂ (λ z b. λ s. ltb s (room base n z) && b (base + s)) t.shape.size t.shape.bad;
      home = ap (λ h. λ s. h (base + s)) t.shape.home;
    };
    disk = ap (λ d. λ s. d (base + s)) t.disk;
    idle = simp waiting_shifted (λ z. (ap (over base n) (t.idle z).0, (t.idle z).1));
    progress = simp waiting_shifted t.progress;
    readied = readied_shifted base t.readied;
    flush_order = flush_order_shifted base m'.tickets ∙ t.flush_order;
    settled = λ s e w. t.settled (base + s) e (sym (waiting_at base n m.size s m.tickets l) ∙ w);
    flushed = flushed_shifted base n m.size m'.disk m'.medium m.tickets m'.tickets (lies_readied base n m.size t.readied l) t.flushed;
    bounded = t.bounded;
  }

-- Collect

module _ (base : ℕ) where
  abbrev shift_due : Result Ticket Cause → Result Ticket Cause
  shift_due r = result_map_both (shifted base) (λ c. c) r

  due_found : (o : Option Ticket) (space : ℕ) → due_as (option_map (shifted base) o) space ≡ shift_due (due_as o space)
  due_found None space = refl
  due_found (Some t) space = grind (arith, nat_tests)

  without_shifted : (t : ℕ) (ts : List Ticket) → without t (map (shifted base) ts) ≡ map (shifted base) (without t ts)
  without_shifted t [] = refl
  without_shifted t (x ∷ xs) = grind (arith, nat_tests, without_shifted t xs)

each_without : (P : Ticket → Type 0) (t : ℕ) (ts : List Ticket) → Each P ts → Each P (without t ts)
each_without P t [] e = tt
each_without P t (x ∷ xs) e = cond_both (eqb t x.tag) xs (x ∷ without t xs) (Each P) (λ _. e.1) (λ _. (e.0, each_without P t xs e.1))

module _ (base n : ℕ) (m : Meaning) (t : ℕ) where
  answer_by : (r : Result Ticket Cause) → at_height (layer_height m.height) (collect_answer_as r m) ≡ collect_answer_as (shift_due base r) (over base n m)
  answer_by (Ok x) = refl
  answer_by (Err c) = refl

  hands_by : (r : Result Ticket Cause) (buffer : List ℕ) → buffer_as r buffer ≡ buffer_as (shift_due base r) buffer
  hands_by (Ok x) buffer = refl
  hands_by (Err c) buffer = refl

  collected_by : (r : Result Ticket Cause) → over base n (collected_as r m t) ≡ collected_as (shift_due base r) (over base n m) t
  collected_by (Ok x) = ap (with_disk (over base n m) (λ s. m.disk (base + s))) (sym (without_shifted base t m.tickets))
  collected_by (Err c) = refl

  left_within : (r : Result Ticket Cause) → Within base n m → Within base n (collected_as r m t)
  left_within (Ok x) w = each_without (Lies base n m.size) t m.tickets w
  left_within (Err c) w = w

  due_shifted : (space : ℕ) → due (over base n m) t space ≡ shift_due base (due m t space)
  due_shifted space = ap (λ o. due_as o space) (found_shifted base t m.tickets) ∙ due_found base (found t m.tickets) space

  pub collect_answers : (space : ℕ) → at_height (layer_height m.height) (collect_answer m t space) ≡ collect_answer (over base n m) t space
  collect_answers space = rw due_shifted (answer_by (due m t space))

  pub collect_hands : (buffer : List ℕ) → buffer_after m t buffer ≡ buffer_after (over base n m) t buffer
  collect_hands buffer = rw due_shifted (hands_by (due m t (length buffer)) buffer)

  pub collect_leaves : (space : ℕ) → over base n (collected m t space) ≡ collected (over base n m) t space
  collect_leaves space = rw due_shifted (collected_by (due m t space))

  pub collect_within : (space : ℕ) → Within base n m → Within base n (collected m t space)
  collect_within space w = left_within (due m t space) w

-- Submit

-- the request that is sent below
abbrev down : ℕ → Kind → Request → Request
down base k q = record { tag = q.tag; kind = q.kind; first = cond (is_flush k) 0 (base + q.first); count = q.count }

fair_down : (k : Kind) (base first count : ℕ) → fair_count k first count ≡ true → fair_count k (cond (is_flush k) 0 (base + first)) count ≡ true
fair_down Read base first count h = h
fair_down Write base first count h = h
fair_down Flush base first count h = grind (arith, nat_tests)

inside_down : (k : Kind) (base n size first count : ℕ) → fair_count k first count ≡ true → first + count ≤ room base n size
    → cond (is_flush k) 0 (base + first) + count ≤ size
inside_down Read base n size first count h le = grind (arith, nat_tests)
inside_down Write base n size first count h le = grind (arith, nat_tests)
inside_down Flush base n size first count h le = grind (arith, nat_tests)

low_down : (k : Kind) (base n size first count : ℕ) → fair_count k first count ≡ true → first + count ≤ room base n size → size ≤ 65536
    → cond (is_flush k) 0 (min (base + first) (2 ^ 32 - 1)) ≡ cond (is_flush k) 0 (base + first)
low_down Read base n size first count h le s = grind (arith, nat_tests)
low_down Write base n size first count h le s = grind (arith, nat_tests)
low_down Flush base n size first count h le s = refl

bytes_shifted : (disk : Contents) (base first n : ℕ) → bytes_of disk (base + first) n ≡ bytes_of (λ s. disk (base + s)) first n
bytes_shifted disk base first zero = refl
bytes_shifted disk base first (suc n) = cc (bytes_shifted disk base first n, add_assoc base first n)

written_if : (c c' b b' : Bool) (x x' y : List ℕ) → c ≡ c' → (c' ≡ true → b ≡ b') → x ≡ x' → cond (c && not b) x y ≡ cond (c' && not b') x' y
written_if c true b b' x x' y e f g = ap (λ z. cond (z && not b) x y) e ∙ (ap (λ z. cond (true && not z) x y) (f refl) ∙ ap (λ z. cond (true && not b') z y) g)
written_if c false b b' x x' y e f g = ap (λ z. cond (z && not b) x y) e

written_shifted : (base size first count : ℕ) (bad : ℕ → Bool) (d : List ℕ) (disk : Contents) (s : ℕ) → first + count ≤ size
    → written bad (base + first) count d disk (base + s) ≡ written (bad_in base size bad) first count d (λ x. disk (base + x)) s
written_shifted base size first count bad d disk s le = grind (arith, nat_tests)

module _ (base n : ℕ) (m : Meaning) (q : Request) (d : List ℕ) where
  disk_down : (k : Kind) → q.first + q.count ≤ room base n m.size → (s : ℕ) → disk_after k m (down base k q) d (base + s) ≡ disk_after k (over base n m) q d s
  disk_down Read le s = refl
  disk_down Write le s = written_shifted base (room base n m.size) q.first q.count m.bad d m.disk s le
  disk_down Flush le s = refl

  first_back : (k : Kind) → fair_count k q.first q.count ≡ true → cond (is_flush k) 0 (base + q.first) - base ≡ q.first
  first_back Read h = omega arith
  first_back Write h = omega arith
  first_back Flush h = grind (arith, nat_tests)

  mask_down : (k : Kind) → fair_count k q.first q.count ≡ true → q.first + q.count ≤ room base n m.size
      → mask_of m.bad (cond (is_flush k) 0 (base + q.first)) q.count ≡ mask_of (over base n m).bad q.first q.count
  mask_down Read h le = mask_shifted m.bad base (room base n m.size) q.first q.count le
  mask_down Write h le = mask_shifted m.bad base (room base n m.size) q.first q.count le
  mask_down Flush h le = let z : q.count ≡ 0 = grind (arith, nat_tests) in rw z

  bytes_down : (k : Kind) → due_bytes k m.disk (cond (is_flush k) 0 (base + q.first)) q.count ≡ due_bytes k (over base n m).disk q.first q.count
  bytes_down Read = bytes_shifted m.disk base q.first q.count
  bytes_down Write = refl
  bytes_down Flush = refl

  ticket_down : (k : Kind) → fair_count k q.first q.count ≡ true → q.first + q.count ≤ room base n m.size
      → shifted base (ticket_of m (down base k q) k) ≡ ticket_of (over base n m) q k
  ticket_down k h le = λ i. record {
    tag = q.tag;
    kind = k;
    first = first_back k h i;
    count = q.count;
    mask = mask_down k h le i;
    bytes = bytes_down k i;
    ready = false;
  }

  module _ (k : Kind) (h : fair_count k q.first q.count ≡ true) (le : q.first + q.count ≤ room base n m.size) where
    accepted_down : over base n (accepted m (down base k q) k d) ≡ accepted (over base n m) q k d
    accepted_down =
        ap₂ (with_disk (over base n m)) (fun_ext (disk_down k le))
        (map-append (shifted base) m.tickets (ticket_of m (down base k q) k ∷ []) ∙ ap (λ t. map (shifted base) m.tickets ++ (t ∷ [])) (ticket_down k h le))

    lies_down : Lies base n m.size (ticket_of m (down base k q) k)
    lies_down f = grind (arith, nat_tests)

    -- by the two tests that are left, the open tag and the room
    leaves_by : (o f : Bool)
        → over base n (submitted_as (cond o (Err causes.TagOpen) (cond f (Err causes.Full) (Ok k))) m (down base k q) d)
        ≡ submitted_as (cond o (Err causes.TagOpen) (cond f (Err causes.Full) (Ok k))) (over base n m) q d
    leaves_by true f = refl
    leaves_by false true = refl
    leaves_by false false = accepted_down

    within_by : (o f : Bool) → Within base n m
        → Within base n (submitted_as (cond o (Err causes.TagOpen) (cond f (Err causes.Full) (Ok k))) m (down base k q) d)
    within_by true f l = l
    within_by false true l = l
    within_by false false l = each_more (Lies base n m.size) m.tickets (ticket_of m (down base k q) k) l lies_down

sent_by : (r : Result Kind Cause) (base n : ℕ) (m : Meaning) → at_height (layer_height m.height) (submit_answer_as r m) ≡ submit_answer_as r (over base n m)
sent_by (Ok k) base n m = refl
sent_by (Err c) base n m = refl

flush_number : (n : ℕ) (k : Kind) → kind_of n ≡ Some k → is_flush k ≡ eqb n 2
flush_number n k e = grind (arith, nat_tests)

-- what a submit did, by what was sent below
module _ {D : Type 0} (base : ℕ) (meaning : D → Meaning) (does : D → Told → D → Type 0) (d d' : D) (q low : Request) (b : List ℕ) (tick : ℕ) (e : low ≡ moved base q) where
  pub acted : (Q : Refusal → Refusal → Type 0) (r a : Result (Unit {0}) Refusal) → MatchResult r (λ x. a ≡ Ok x) (λ f. IsErrAnd a (Q f))
      → does d (submit low b tick r) d' → Acts base meaning does d (submit q b tick a) d'
  acted Q (Ok x) (Ok y) p s = rw (← e) s
  acted Q (Ok x) (Err y) p s = cc
  acted Q (Err f) (Ok x) p s = absurd p
  acted Q (Err f) (Err y) p s = inr (f, rw (← e) s)

-- a submit below, against the same from above
pub record Submits (base n : ℕ) (m : Meaning) (q low : Request) (d : List ℕ) : Type 0 where
  pub sent : low ≡ moved base q
  pub within : Within base n m → Within base n (submitted m low d)
  pub answers : at_height (layer_height m.height) (submit_answer m low (length d)) ≡ submit_answer (over base n m) q (length d)
  pub leaves : over base n (submitted m low d) ≡ submitted (over base n m) q d

module _ (base n : ℕ) (m : Meaning) (q : Request) (d : List ℕ) (k : Kind) (e : form (room base n m.size) q (length d) ≡ Ok k) where
  fair : fair_count k q.first q.count ≡ true
  fair = (form_ok (room base n m.size) q (length d) k e).0

  inside : q.first + q.count ≤ room base n m.size
  inside = (form_ok (room base n m.size) q (length d) k e).1

  form_below : form m.size (down base k q) (length d) ≡ Ok k
  form_below =
      form_from m.size (down base k q) (length d) k (form_kind (room base n m.size) q (length d) k e)
      (fair_down k base q.first q.count fair) (inside_down k base n m.size q.first q.count fair inside)
      (form_ok (room base n m.size) q (length d) k e).2

  below : admitted m (down base k q) (length d) ≡ admitted_as (Ok k) m q.tag
  below = ap (λ r. admitted_as r m q.tag) form_below

  above : admitted (over base n m) q (length d) ≡ admitted_as (Ok k) m q.tag
  above =
      ap (λ r. admitted_as r (over base n m) q.tag) e
      ∙ ap₂ (λ o z. cond o (Err causes.TagOpen) (cond (eqb z m.capacity) (Err causes.Full) (Ok k))) (open_shifted base q.tag m.tickets) (length-map m.tickets (shifted base))

  submit_down : Submits base n m q (down base k q) d
  submit_down =
      let o = tag_is_open q.tag m.tickets in
      let f = eqb (length m.tickets) m.capacity in
      record {
        sent = ap (λ b. record { tag = q.tag; kind = q.kind; first = cond b 0 (base + q.first); count = q.count }) (flush_number q.kind k (form_kind (room base n m.size) q (length d) k e));
        within = λ w. rw below (within_by base n m q d k fair inside o f w);
        answers = rw (below, above) (sent_by (admitted_as (Ok k) m q.tag) base n m);
        leaves = rw (below, above) (leaves_by base n m q d k fair inside o f);
      }

  pub submits : (first : ℕ) → m.size ≤ 65536 → first ≡ cond (is_flush k) 0 (min (base + q.first) (2 ^ 32 - 1))
      → Submits base n m q (record { tag = q.tag; kind = q.kind; first = first; count = q.count }) d
  submits first s f = rw (f, low_down k base n m.size q.first q.count fair inside s) submit_down
