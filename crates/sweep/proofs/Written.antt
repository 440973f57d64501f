-- What several writes of a sweep appended.
use Rattle.std.proofs.Common.{◌≡◌, ◌≤◌, ◌<◌, ◌+◌, ◌-◌, ◌^◌, ◌∙◌, ℕ, zero, suc, Bool, true, false, cond, nat_lt, List, [], ◌∷◌, ◌++◌, Option, Vec, Global, length, length-append, append_assoc, get_or, take, drop, refl, sym, ap, subst, arith}
use Rattle.std.specs.List.{flat_map}
use Rattle.std.proofs.Math.Seq.{drop-append_seam, take-append-add}
use Rattle.std.proofs.lemmas.List.{take-append-le}
use Rattle.io_edge.specs.Bytes.{Appends, AppendsFront}
use Rattle.io_edge.specs.Faults.{HasRisen}
use Rattle.io_edge.proofs.Appending.{Appends-trans}
use Rattle.std.proofs.lemmas.Bool.{ltb-true, ltb-false}
use Rattle.std.specs.Ordering.{nat_cmp}
use Rattle.std.specs.FinSet as set
use Rattle.policy_kinds.specs.declared.kind.Kind.{Kind}
use Rattle.sweep.specs.Texts.{AreGrown, HaveTrials, IsTrialText, text_at}
use Rattle.sweep.specs.Swept.{IsBegun, trial_text}
use Rattle.sweep.specs.Written.{Writes, WritesFront}
use Rattle.sweep.specs.declared.sweeps.Sweep.{Sweep}
use Rattle.sweep.proofs.Parts.{begun_first}
use Rattle.sweep.specs.declared.trial.Fate.{Fate}

rose_by : (x y : Bool) (a b c m : ℕ) → (x ≡ true → a < m) → (y ≡ false → m ≤ b) → a ≤ b → cond y (b + 1) b ≤ c → cond x (a + 1) a ≤ c
rose_by true true a b c m low high le h = omega (arith, le, h)
rose_by true false a b c m low high le h = omega (arith, low refl, high refl, h)
rose_by false true a b c m low high le h = omega (arith, le, h)
rose_by false false a b c m low high le h = omega (arith, le, h)

-- a count that rose from a later value rose from an earlier one
pub rose_earlier : (a b c : ℕ) → a ≤ b → HasRisen b c → HasRisen a c
rose_earlier a b c le h = rose_by (nat_lt a (2 ^ 64 - 1)) (nat_lt b (2 ^ 64 - 1)) a b c (2 ^ 64 - 1) (ltb-true a (2 ^ 64 - 1)) (ltb-false b (2 ^ 64 - 1)) le h

-- a front of a text behind a whole one is a front of both
pub Appends-front : (a b c : Option (List ℕ)) (x y : List ℕ) → Appends a b x → AppendsFront b c y → AppendsFront a c (x ++ y)
Appends-front a b c x y p q = (length x + q.0, omega (arith, length-append x y, q.1), rw (take-append-add x y q.0) (Appends-trans a b c x (take q.0 y) p q.2))

-- and of what stands behind both
pub front_longer : (a c : Option (List ℕ)) (x y : List ℕ) → AppendsFront a c x → AppendsFront a c (x ++ y)
front_longer a c x y p = (p.0, omega (arith, p.1, length-append x y), subst (Appends a c) (sym (take-append-le p.0 x y p.1)) p.2)

abbrev bytes_of : List (Vec ℕ Global) → List ℕ
bytes_of = flat_map (λ (v : Vec ℕ Global). v.items)

parts_at : (texts : List (Vec ℕ Global)) (i : ℕ) (v : Vec ℕ Global) → i < length texts → v ≡ get_or texts i v → (bytes_of (take i texts) ++ v.items) ++ bytes_of (drop (suc i) texts) ≡ bytes_of texts
parts_at [] i v less at = absurd (omega (arith, less))
parts_at (x ∷ xs) zero v less at = ap (λ (w : Vec ℕ Global). w.items ++ bytes_of xs) at
parts_at (x ∷ xs) (suc i) v less at =
    ap (λ l. l ++ bytes_of (drop (suc i) xs)) (append_assoc x.items (bytes_of (take i xs)) v.items) ∙ append_assoc x.items (bytes_of (take i xs) ++ v.items) (bytes_of (drop (suc i) xs))
    ∙ ap (λ l. x.items ++ l) (parts_at xs i v (omega (arith, less)) at)

-- the texts behind the first are those before a place, the one there and those behind it
pub others_at : (texts : List (Vec ℕ Global)) (i : ℕ) (v : Vec ℕ Global) → 1 ≤ i → i < length texts → v ≡ get_or texts i v
    → (bytes_of (drop 1 (take i texts)) ++ v.items) ++ bytes_of (drop 1 (drop i texts)) ≡ bytes_of (drop 1 texts)
others_at [] i v from less at = absurd (omega (arith, less))
others_at (x ∷ xs) zero v from less at = absurd (omega (arith, from))
others_at (x ∷ xs) (suc i) v from less at = ap (λ l. (bytes_of (take i xs) ++ v.items) ++ bytes_of l) (drop_one i xs) ∙ parts_at xs i v (omega (arith, less)) at
  where
    drop_one : (n : ℕ) (ys : List (Vec ℕ Global)) → drop 1 (drop n ys) ≡ drop (suc n) ys
    drop_one zero ys = refl
    drop_one (suc n) [] = refl
    drop_one (suc n) (y ∷ ys) = drop_one n ys

-- all texts are the first and the others
pub first_and_others : (texts : List (Vec ℕ Global)) → flat_map (λ (v : Vec ℕ Global). v.items) texts ≡ text_at texts 0 ++ flat_map (λ (v : Vec ℕ Global). v.items) (drop 1 texts)
first_and_others [] = refl
first_and_others (v ∷ vs) = refl

-- the first text has grown at its end
pub first_grown : (announcers : List ℕ) (AreRight : ℕ → (Fate → ℕ) → Type 0) (t : ℕ) (ks : List ℕ) (old new : List (Vec ℕ Global)) → length old ≡ length ks → length new ≡ length old → AreGrown announcers AreRight t ks old new
    → (rows : List ℕ) × (text_at new 0 ≡ text_at old 0 ++ rows)
first_grown announcers AreRight t [] [] [] p q grown = ([], refl)
first_grown announcers AreRight t [] [] (v ∷ vs) p q grown = absurd (omega (arith, q))
first_grown announcers AreRight t [] (u ∷ us) new p q grown = absurd (omega (arith, p))
first_grown announcers AreRight t (k ∷ ks) old new p q grown = let g = grown 0 k refl in (trial_text announcers k t g.number, g.rows)

-- what has grown is what stood there and what stands behind it
pub seam : (old new rows : List ℕ) → new ≡ old ++ rows → old ++ drop (length old) new ≡ new
seam old new rows is = ap (λ l. old ++ drop (length old) l) is ∙ ap (λ l. old ++ l) (drop-append_seam old rows) ∙ sym is

pub longer : (old new rows : List ℕ) → new ≡ old ++ rows → length old ≤ length new
longer old new rows is = omega (arith, ap (λ l. length l) is, length-append old rows)

-- what stands in the first text from a place on was written behind what stood there before
pub wrote_more : (texts now : List (Vec ℕ Global)) (from : ℕ) (rows : List ℕ) (a b c : Option (List ℕ)) → text_at now 0 ≡ text_at texts 0 ++ rows → from ≡ length (text_at texts 0)
    → Appends a b (text_at texts 0) → Appends b c (drop from (text_at now 0)) → Appends a c (text_at now 0)
wrote_more texts now from rows a b c grown is so last =
    subst (Appends a c) (seam (text_at texts 0) (text_at now 0) rows grown)
    (Appends-trans a b c (text_at texts 0) (drop (length (text_at texts 0)) (text_at now 0)) so (subst (λ n. Appends b c (drop n (text_at now 0))) is last))

module _ (ases : set.FinSet nat_cmp) (announcers : List ℕ) (AreRight : (ℕ → Kind) → (Fate → ℕ) → Type 0) (kinds : ℕ → Kind) (line : Sweep) where
  -- the first text was written
  pub wrote_first : (texts : List (Vec ℕ Global)) (n : ℕ) (a b : Option (List ℕ)) → n ≤ line.trials → HaveTrials (IsTrialText ases announcers AreRight kinds line) n line.ks texts
      → Appends a b (text_at texts 0) → Writes (IsBegun ases announcers AreRight kinds line) a b
  wrote_first texts n a b few have so = record { text = text_at texts 0; is = begun_first ases announcers AreRight kinds line texts n few have; appended = so }

  -- what stands in it from a place on was written in part
  pub wrote_front : (texts now : List (Vec ℕ Global)) (n from : ℕ) (rows : List ℕ) (a b c : Option (List ℕ)) → n ≤ line.trials → HaveTrials (IsTrialText ases announcers AreRight kinds line) n line.ks now
      → text_at now 0 ≡ text_at texts 0 ++ rows → from ≡ length (text_at texts 0) → Appends a b (text_at texts 0) → AppendsFront b c (drop from (text_at now 0)) → WritesFront (IsBegun ases announcers AreRight kinds line) a c
  wrote_front texts now n from rows a b c few have grown is so last = record {
    text = text_at now 0;
    is = begun_first ases announcers AreRight kinds line now n few have;
    appended = subst (AppendsFront a c) (seam (text_at texts 0) (text_at now 0) rows grown)
        (Appends-front a b c (text_at texts 0) (drop (length (text_at texts 0)) (text_at now 0)) so (subst (λ k. AppendsFront b c (drop k (text_at now 0))) is last));
  }
