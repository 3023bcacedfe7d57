-- One submit, one turn and one collect below, from the meaning alone.
use Rattle.std.proofs.Common.{◌≡◌, ℕ, ◌+◌, ◌-◌, ◌*◌, ◌<◌, ◌≤◌, Bool, true, false, cond, not, ◌&&◌, ◌||◌, eqb, ltb, List, [], ◌∷◌, ◌++◌, length, Some, None, Ok, Err, refl, ap, ◌∙◌, subst, sym, true≢false, arith, length-take-le}
use Rattle.std.specs.Result.{result_unwrap_or}
use Rattle.std.proofs.lemmas.Bool.{le-ltb, eq-eqb, ne_eqb}
use Rattle.device.specs.declared.interface.Kind.{Kind}
use Rattle.device.specs.declared.interface.Kind.TheVariants.{Read, Write, Flush}
use Rattle.device.specs.declared.interface.Cause.TheVariants as causes
use Rattle.device.specs.Meaning.{Meaning, Ticket, is_write, covers, part, mask_of, with_disk}
use Rattle.device.specs.Numbers.{kind_of, kind_number}
use Rattle.device.specs.Submit.{due_length, tag_is_open, admitted_as, admitted, disk_after, due_bytes, ticket_of, submitted_as, submit_answer_as}
use Rattle.device.specs.Collect.{found, without, due_as, due, collected_as, buffer_as, collect_answer_as}
use Rattle.device.specs.Turns.{waiting, waiting_write_at, Readied, none, stays, turns, made_ready, Flushed}
use Rattle.device.specs.Told.{Told, submit, collect}
use Rattle.device.proofs.Forms.{form_from}
use Rattle.queue.specs.Serve.{asked, sent, Tried, Servable, Served, Called}
use Rattle.queue.proofs.Runs.{bytes_length}

-- one waiting ticket, after a turn
one_turned : {t : Ticket} {us : List Ticket} → Readied (t ∷ []) us → t.ready ≡ false → waiting us < 1 → us ≡ made_ready t ∷ []
one_turned {t} (stays none) r w = absurd (go t.ready r w)
  where
    go : (b : Bool) → b ≡ false → cond b 0 1 + 0 < 1 → ⊥
    go true e h = true≢false e
    go false e h = omega arith
one_turned (turns e none) r w = refl

kind_back : (k : Kind) → kind_of (kind_number k) ≡ Some k
kind_back Read = refl
kind_back Write = refl
kind_back Flush = refl

-- what goes down is what is due
sent_length : (k : Kind) (count : ℕ) (before : List ℕ) → count * 128 ≤ length before → length (sent k count before) ≡ due_length k count
sent_length k count before h = length-take-le (due_length k count) before (short k)
  where
    short : (j : Kind) → due_length j count ≤ length before
    short Read = omega arith
    short Write = omega arith
    short Flush = omega arith

-- what is asked here is not refused
not_refused : (m : Meaning) (k : Kind) (first count given : ℕ) → Servable m k first count → given ≡ due_length k count → admitted m (asked k first count) given ≡ Ok k
not_refused m k first count given s g = ap (λ r. admitted_as r m 0) (form_from m.size (asked k first count) given k (kind_back k) s.counted s.inside g) ∙ entered
  where
    entered : admitted_as (Ok k) m 0 ≡ Ok k
    entered =
        ap (λ b. cond b (Err causes.TagOpen) (cond (eqb (length m.tickets) m.capacity) (Err causes.Full) (Ok k))) (ap (tag_is_open 0) s.idle)
        ∙ ap (λ b. cond b (Err causes.Full) (Ok k)) (ap (λ ts. eqb (length ts) m.capacity) s.idle ∙ ne_eqb 0 m.capacity (λ z. omega (arith, s.place)))

due_fits : (m : Meaning) (k : Kind) (first count room : ℕ) → Servable m k first count → count * 128 ≤ room → length (due_bytes k m.disk first count) ≤ room
due_fits m k first count room s h = go k
  where
    inside : first + count ≤ m.size
    inside = s.inside

    go : (j : Kind) → length (due_bytes j m.disk first count) ≤ room
    go Read = let e = bytes_length m.disk first count (λ x a b. s.sized x (omega arith)) in omega arith
    go Write = omega arith
    go Flush = omega arith

-- a device whose one open ticket is t, ready, under tag 0
due_one : (m : Meaning) (t : Ticket) (room : ℕ) → m.tickets ≡ t ∷ [] → t.tag ≡ 0 → t.ready ≡ true → length t.bytes ≤ room →
    (due m 0 room ≡ Ok t) × (without 0 m.tickets ≡ [])
due_one m t room e g r l = (is, ap (without 0) e ∙ ap (λ b. cond b [] (t ∷ [])) tagged)
  where
    tagged : eqb 0 t.tag ≡ true
    tagged = eq-eqb 0 t.tag (sym g)

    is : due m 0 room ≡ Ok t
    is =
        ap (λ o. due_as o room) (ap (found 0) e ∙ ap (λ b. cond b (Some t) None) tagged)
        ∙ ap (λ b. cond b (cond (ltb room (length t.bytes)) (Err causes.ShortBuffer) (Ok t)) (Err causes.Waits)) r
        ∙ ap (λ b. cond b (Err causes.ShortBuffer) (Ok t)) (le-ltb room (length t.bytes) l)

-- the three calls, where the run is one that the device serves
module _ {D : Type 0} {meaning : D → Meaning} {does : D → Told → D → Type 0} {d d' : D} {k : Kind} {first count : ℕ} {before after : List ℕ} {tick ticks mask : ℕ}
    (w : Tried meaning does d d' k first count before after tick ticks mask) (s : Servable (meaning d) k first count) (room : count * 128 ≤ length before) where
  abbrev t : Ticket
  t = ticket_of (meaning d) (asked k first count) k

  abbrev disk : ℕ → List ℕ
  disk = disk_after k (meaning d) (asked k first count) (sent k count before)

  entered : admitted (meaning d) (asked k first count) (length (sent k count before)) ≡ Ok k
  entered = not_refused (meaning d) k first count (length (sent k count before)) s (sent_length k count before room)

  accepted : w.accepts ≡ Ok tt
  accepted = w.submit_answers ∙ ap (λ r. submit_answer_as r (meaning d)) entered

  began : meaning w.entered ≡ with_disk (meaning d) disk (t ∷ [])
  began =
      w.submit_leaves ∙ ap (λ r. submitted_as r (meaning d) (asked k first count) (sent k count before)) entered
      ∙ ap (λ ts. with_disk (meaning d) disk (ts ++ (t ∷ []))) s.idle

  turned : (meaning w.turned).tickets ≡ made_ready t ∷ []
  turned =
      let ts : (meaning w.entered).tickets ≡ t ∷ [] = ap (λ m. m.tickets) began in
      let one : waiting (meaning w.entered).tickets ≡ 1 = ap waiting ts in
      one_turned (subst (λ l. Readied l (meaning w.turned).tickets) ts w.turn_leaves.readied) refl (subst (λ n. waiting (meaning w.turned).tickets < n) one (w.turn_leaves.progress (omega (arith, one))))

  facts : (due (meaning w.turned) 0 (length before) ≡ Ok (made_ready t)) × (without 0 (meaning w.turned).tickets ≡ [])
  facts = due_one (meaning w.turned) (made_ready t) (length before) turned refl refl (due_fits (meaning d) k first count (length before) s room)

  left : meaning d' ≡ with_disk (meaning w.turned) (meaning w.turned).disk []
  left = w.collect_leaves ∙ ap (λ r. collected_as r (meaning w.turned) 0) facts.0 ∙ ap (with_disk (meaning w.turned) (meaning w.turned).disk) facts.1

  given : w.gives ≡ Ok (mask_of (meaning d).bad first count)
  given = w.collect_answers ∙ ap (λ r. collect_answer_as r (meaning w.turned)) facts.0

  masked : mask ≡ mask_of (meaning d).bad first count
  masked = w.mask_or_none ∙ ap (λ r. result_unwrap_or r 0) given

  untouched : (x : ℕ) (j : Kind) → (is_write j && covers first count x) ≡ false → disk_after j (meaning d) (asked k first count) (sent k count before) x ≡ (meaning d).disk x
  untouched x Read f = refl
  untouched x Write f = ap (λ b. cond (b && not ((meaning d).bad x)) (part (sent k count before) (x - first)) ((meaning d).disk x)) f
  untouched x Flush f = refl

  no_write : (b : Bool) → b ≡ false → ((true && b) || false) ≡ false
  no_write true e = e
  no_write false e = refl

  pub serves_tried : Served (meaning d) (meaning d') k first count before after ticks mask
  serves_tried = record {
    disk = ap (λ m. m.disk) left ∙ w.turn_leaves.disk ∙ ap (λ m. m.disk) began;
    idle = ap (λ m. m.tickets) left;
    shape = record {
      size = ap (λ m. m.size) left ∙ w.turn_leaves.shape.size ∙ ap (λ m. m.size) began;
      capacity = ap (λ m. m.capacity) left ∙ w.turn_leaves.shape.capacity ∙ ap (λ m. m.capacity) began;
      height = ap (λ m. m.height) left ∙ w.turn_leaves.shape.height ∙ ap (λ m. m.height) began;
      bad = ap (λ m. m.bad) left ∙ w.turn_leaves.shape.bad ∙ ap (λ m. m.bad) began;
      home = ap (λ m. m.home) left ∙ w.turn_leaves.shape.home ∙ ap (λ m. m.home) began;
    };
    answers = masked;
    hands = w.collect_hands ∙ ap (λ r. buffer_as r before) facts.0;
    settled = λ x agree free.
        ap (λ m. m.medium x) left
        ∙ w.turn_leaves.settled x (ap (λ m. m.medium x) began ∙ agree ∙ sym (ap (λ m. m.disk x) began ∙ untouched x k free))
        (ap (λ m. waiting_write_at x m.tickets) began ∙ no_write (is_write k && covers first count x) free)
        ∙ sym (ap (λ m. m.disk x) left);
    flushed = λ fl x.
        let f : Flushed (meaning w.turned).disk (meaning w.turned).medium (t ∷ []) (made_ready t ∷ []) =
        subst (λ ts. Flushed (meaning w.turned).disk (meaning w.turned).medium ts (made_ready t ∷ [])) (ap (λ m. m.tickets) began)
        (subst (λ us. Flushed (meaning w.turned).disk (meaning w.turned).medium (meaning w.entered).tickets us) turned w.turn_leaves.flushed) in
        ap (λ m. m.medium x) left ∙ f.0 fl refl refl x refl ∙ sym (ap (λ m. m.disk x) left);
    bounded = w.turn_leaves.bounded;
  }

  pub calls_tried : Called does d d' k first count before after tick ticks mask
  calls_tried = record {
    submitted = w.entered;
    turned = w.turned;
    submits = subst (λ r. does d (submit (asked k first count) (sent k count before) tick r) w.entered) accepted w.submits;
    turns = w.turns;
    collects = subst (λ r. does w.turned (collect 0 before r after) d') (given ∙ ap Ok (sym masked)) w.collects;
  }
