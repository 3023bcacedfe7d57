-- The disk holds at each good sector the last write accepted, and a row of sectors holds each in its part.
use Rattle.std.proofs.Common.{◌≡◌, ℕ, zero, suc, ◌+◌, ◌-◌, ◌*◌, ◌<◌, ◌≤◌, Bool, true, false, cond, not, ◌&&◌, eqb, ltb, leb, List, ◌++◌, length, take, Some, None, Ok, Option, unwrap_or, sym, refl, ap, ◌∙◌, subst, ⊎_elim, append_assoc, arith, length-append, length-drop, length-take}
use Rattle.std.specs.Option.{option_or}
use Rattle.std.proofs.lemmas.List.{drop_at, take_at}
use Rattle.std.proofs.lemmas.Bool.{eqb-true, leb-true, ltb-true, and_parts, cases_lt}
use Rattle.device.specs.Told.{Told}
use Rattle.device.specs.Told as told
use Rattle.device.specs.declared.interface.Kind.{Kind}
use Rattle.device.specs.declared.interface.Kind.TheVariants.{Read, Write, Flush}
use Rattle.device.specs.declared.interface.Request.{Request}
use Rattle.device.specs.Meaning.{Meaning, Contents, part, bytes_of, covers}
use Rattle.device.specs.Numbers.{kind_of, kind_number}
use Rattle.device.specs.Submit.{disk_after, due_length}
use Rattle.history.specs.History.{writes, last_write, last_written}
use Rattle.history.specs.Steps.{Ran, still, next}
use Rattle.history.proofs.Change.{Change, ignored, turned, takes, gives, changes}

pub record Shape (m m' : Meaning) : Type 0 where
  pub bad : m'.bad ≡ m.bad
  pub size : m'.size ≡ m.size

shape_change : {m m' : Meaning} {e : Told} → Change m e m' → Shape m m'
shape_change (ignored a b c d) = record { bad = refl; size = refl }
shape_change (turned r) = record { bad = r.shape.bad; size = r.shape.size }
shape_change (takes k f) = record { bad = refl; size = refl }
shape_change (gives x f a b) = record { bad = refl; size = refl }

pub shape : {m m' : Meaning} {h : List Told} → Ran m h m' → Shape m m'
shape still = record { bad = refl; size = refl }
shape (next {m = m} {m₁ = m₁} {e = e} s r) = let c = shape_change (changes m e m₁ s) in let d = shape r in record { bad = d.bad ∙ c.bad; size = d.size ∙ c.size }

-- a number that names a kind is the kind's
numbered : (n : ℕ) (k : Kind) → kind_of n ≡ Some k → n ≡ kind_number k
numbered n k e = go (eqb n 0) (eqb n 1) (eqb n 2) refl refl refl e
  where
    go : (a b c : Bool) → eqb n 0 ≡ a → eqb n 1 ≡ b → eqb n 2 ≡ c → cond a (Some Read) (cond b (Some Write) (cond c (Some Flush) None)) ≡ Some k → n ≡ kind_number k
    go true b c p q r e = let f : Read ≡ k = cc in eqb-true n 0 p ∙ ap kind_number f
    go false true c p q r e = let f : Write ≡ k = cc in eqb-true n 1 q ∙ ap kind_number f
    go false false true p q r e = let f : Flush ≡ k = cc in eqb-true n 2 r ∙ ap kind_number f
    go false false false p q r e = cc

cond_some : (b : Bool) (x y : List ℕ) → cond b x y ≡ unwrap_or (cond b (Some x) None) y
cond_some true x y = refl
cond_some false x y = refl

good : (a b : Bool) → b ≡ false → (a && not b) ≡ a
good true b e = ap not e
good false b e = refl

disk_takes : (m : Meaning) (q : Request) (d : List ℕ) (t : ℕ) (s : ℕ) (k : Kind) → kind_of q.kind ≡ Some k → m.bad s ≡ false → disk_after k m q d s ≡ unwrap_or (writes s (told.submit q d t (Ok tt))) (m.disk s)
disk_takes m q d t s Read e g = ap (λ n. unwrap_or (cond (eqb n 1 && covers q.first q.count s) (Some (part d (s - q.first))) None) (m.disk s)) (sym (numbered q.kind Read e))
disk_takes m q d t s Write e g =
    ap (λ b. cond b (part d (s - q.first)) (m.disk s)) (good (covers q.first q.count s) (m.bad s) g)
    ∙ cond_some (covers q.first q.count s) _ _
    ∙ ap (λ n. unwrap_or (cond (eqb n 1 && covers q.first q.count s) (Some (part d (s - q.first))) None) (m.disk s)) (sym (numbered q.kind Write e))
disk_takes m q d t s Flush e g = ap (λ n. unwrap_or (cond (eqb n 1 && covers q.first q.count s) (Some (part d (s - q.first))) None) (m.disk s)) (sym (numbered q.kind Flush e))

disk_change : {m m' : Meaning} {e : Told} (s : ℕ) → Change m e m' → m.bad s ≡ false → m'.disk s ≡ unwrap_or (writes s e) (m.disk s)
disk_change s (ignored {m = m} a b w n) g = ap (λ o. unwrap_or o (m.disk s)) (sym (w s))
disk_change s (turned r) g = ap (λ f. f s) r.disk
disk_change s (takes {m = m} {q = q} {d = d} {t = t} k f) g = disk_takes m q d t s k f.is_kind g
disk_change s (gives x f a b) g = refl

nest : (o p : Option (List ℕ)) (l : List ℕ) → unwrap_or o (unwrap_or p l) ≡ unwrap_or (option_or o p) l
nest (Some d) p l = refl
nest None p l = refl

pub disk_holds : {m m' : Meaning} {h : List Told} (s : ℕ) → Ran m h m' → m.bad s ≡ false → m'.disk s ≡ last_written m.disk h s
disk_holds s still g = refl
disk_holds s (next {m = m} {m₁ = m₁} {e = e} {es = es} a r) g =
    let c = changes m e m₁ a in
    disk_holds s r (ap (λ f. f s) (shape_change c).bad ∙ g)
    ∙ ap (λ l. unwrap_or (last_write s es) l) (disk_change s c g)
    ∙ nest (last_write s es) (writes s e) (m.disk s)

-- each sector of the disk has its 128 bytes
abbrev pub Whole : Meaning → Type 0
Whole m = (s : ℕ) → s < m.size → length (m.disk s) ≡ 128

part_length : (d : List ℕ) (n i : ℕ) → length d ≡ n * 128 → i < n → length (part d i) ≡ 128
part_length d n i e l = simp (length-take, length-drop) (omega arith)

whole_takes : (m : Meaning) (q : Request) (d : List ℕ) (k : Kind) → length d ≡ due_length k q.count → Whole m → (s : ℕ) → s < m.size → length (disk_after k m q d s) ≡ 128
whole_takes m q d Read e w s l = w s l
whole_takes m q d Flush e w s l = w s l
whole_takes m q d Write e w s l = go (covers q.first q.count s && not (m.bad s)) refl
  where
    go : (b : Bool) → (covers q.first q.count s && not (m.bad s)) ≡ b → length (cond b (part d (s - q.first)) (m.disk s)) ≡ 128
    go true c =
        let p = and_parts (covers q.first q.count s) (not (m.bad s)) c in
        let r = and_parts (leb q.first s) (ltb s (q.first + q.count)) p.0 in
        let a = leb-true q.first s r.0 in
        let b = ltb-true s (q.first + q.count) r.1 in
        part_length d q.count (s - q.first) e (omega arith)
    go false c = w s l

whole_change : {m m' : Meaning} {e : Told} → Change m e m' → Whole m → Whole m'
whole_change (ignored a b w n) h = h
whole_change (turned r) h = λ s l. ap (λ f. length (f s)) r.disk ∙ h s (subst (λ n. s < n) r.shape.size l)
whole_change (takes {m = m} {q = q} {d = d} k f) h = whole_takes m q d k f.long h
whole_change (gives x f a b) h = h

pub whole : {m m' : Meaning} {h : List Told} → Ran m h m' → Whole m → Whole m'
whole still w = w
whole (next {m = m} {m₁ = m₁} {e = e} s r) w = whole r (whole_change (changes m e m₁ s) w)

-- the bytes of a run
bytes_length : (disk : Contents) (f n : ℕ) → ((i : ℕ) → i < n → length (disk (f + i)) ≡ 128) → length (bytes_of disk f n) ≡ n * 128
bytes_length disk f zero w = refl
bytes_length disk f (suc n) w =
    let a = bytes_length disk f n (λ i l. w i (omega arith)) in
    let b : length (disk (f + n)) ≡ 128 = w n (omega arith) in
    let c = length-append (bytes_of disk f n) (disk (f + n)) in omega arith

pub part_of_run : (disk : Contents) (f n : ℕ) (rest : List ℕ) → ((i : ℕ) → i < n → length (disk (f + i)) ≡ 128) → (i : ℕ) → i < n → part (bytes_of disk f n ++ rest) i ≡ disk (f + i)
part_of_run disk f zero rest w i l = absurd (omega arith)
part_of_run disk f (suc n) rest w i l =
    ap (λ b. part b i) (append_assoc (bytes_of disk f n) (disk (f + n)) rest)
    ∙ ⊎_elim
    (λ (h : i < n). part_of_run disk f n (disk (f + n) ++ rest) (λ j k. w j (omega arith)) i h)
    (λ (h : n ≤ i).
    let z : n ≡ i = omega arith in
    let e : length (bytes_of disk f n) ≡ i * 128 = bytes_length disk f n (λ j k. w j (omega arith)) ∙ ap (λ x. x * 128) z in
    ap (take 128) (drop_at (bytes_of disk f n) (disk (f + n) ++ rest) (i * 128) e)
    ∙ take_at (disk (f + n)) rest 128 (w n (omega arith))
    ∙ ap (λ x. disk (f + x)) z)
    (cases_lt i n)
