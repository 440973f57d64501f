-- The steps of a walk that marks the places that it passes.
use Rattle.std.proofs.Common.{◌≡◌, ◌≢◌, ◌⊎◌, inl, inr, ⊎_elim, ℕ, ◌+◌, ◌<◌, ◌≤◌, true, false, ◌||◌, List, [], ◌∷◌, ◌++◌, length, get_or, set, refl, sym, ◌∙◌, ap, subst, arith, cond, true≢false}
use Rattle.std.specs.Prelude.{nat_eq}
use Rattle.std.specs.List.{list_any, count_by}
use Rattle.std.proofs.lemmas.Bool.{cases_eq, or_right, or_cases, eq-eqb, eqb-true, cases_lt, cases_Bool}
use Rattle.std.proofs.lemmas.List.{length-set, length_push, get_or_push, get_or_append_left, get_or-set_same, get_or-set_other, get_or_past}
use Rattle.std.proofs.lemmas.List.Folds.{list_any-append}
use Rattle.std.proofs.lemmas.List.Sums.{sum_by-set, count_by-le-length}
use Rattle.data_trace.specs.declared.places.PlaceEnd.{PlaceEnd}
use Rattle.data_trace.specs.declared.places.PlaceEnd.TheVariants.{Loop as Loops}
use Rattle.data_trace.specs.declared.places.Mark.{Mark}
use Rattle.data_trace.specs.declared.places.Mark.TheVariants.{Unknown, Walked, Known}
use Rattle.data_trace.specs.Traces.{IsIn}
use Rattle.data_trace.specs.Steps.{Ends}
use Rattle.data_trace.specs.Marks.{mark_of, end_in, is_unknown, AreRight, IsWalk, IsWalked, Settles, IsSettling, AreEnds, as_end}
use Rattle.data_trace.specs.declared.kinds.Hop.{Hop}
use Rattle.data_trace.specs.declared.kinds.Hop.TheVariants as hop
use Rattle.data_trace.specs.declared.kinds.End.{End}
use Rattle.data_trace.proofs.Ends.{ends_to, ends_loops}
use Rattle.data_trace.proofs.Traces.{in_at}

-- ---- one mark is set

pub mark_same : (marks : List Mark) (at : ℕ) (m : Mark) → at < length marks → mark_of (set marks at m) at ≡ m
mark_same marks at m l = get_or-set_same marks at m Unknown l

pub mark_other : (marks : List Mark) (at x : ℕ) (m : Mark) → x ≢ at → mark_of (set marks at m) x ≡ mark_of marks x
mark_other marks at x m ne = get_or-set_other marks at x m Unknown ne

-- a mark that isn't the new one was there before
pub was_there : (marks : List Mark) (at x : ℕ) (m n : Mark) → at < length marks → mark_of (set marks at m) x ≡ n → (x ≡ at) × (m ≡ n) ⊎ (x ≢ at) × (mark_of marks x ≡ n)
was_there marks at x m n l e =
    ⊎_elim (λ (q : x ≡ at). inl (q, sym (mark_same marks at m l) ∙ ap (mark_of (set marks at m)) (sym q) ∙ e))
    (λ (q : x ≢ at). inr (q, sym (mark_other marks at x m q) ∙ e)) (cases_eq x at)

-- where `at` was unknown, all that was known or walked stays
pub stays : (marks : List Mark) (at x : ℕ) (m n : Mark) → mark_of marks at ≡ Unknown → n ≢ Unknown → mark_of marks x ≡ n → mark_of (set marks at m) x ≡ n
stays marks at x m n u ne e =
    ⊎_elim (λ (q : x ≡ at). absurd (ne (sym e ∙ ap (mark_of marks) q ∙ u))) (λ (q : x ≢ at). mark_other marks at x m q ∙ e) (cases_eq x at)

walked_known : (e : PlaceEnd) → Walked ≡ Known e → ⊥
walked_known e q = cc

pub walked_unknown : Walked ≢ Unknown
walked_unknown q = cc

pub known_unknown : (e : PlaceEnd) → Known e ≢ Unknown
known_unknown e q = cc

unknown_inside : (m : Mark) → (m ≡ Unknown) ⊎ (m ≢ Unknown)
unknown_inside Unknown = inl refl
unknown_inside Walked = inr walked_unknown
unknown_inside (Known e) = inr (known_unknown e)

pub count_less : (marks : List Mark) (at : ℕ) → at < length marks → mark_of marks at ≡ Unknown → count_by is_unknown (set marks at Walked) + 1 ≡ count_by is_unknown marks
count_less marks at l u =
    let h : count_by is_unknown (set marks at Walked) + cond (is_unknown (mark_of marks at)) 1 0 ≡ count_by is_unknown marks + 0 =
    sum_by-set (λ m. cond (is_unknown m) 1 0) marks at Walked Unknown l in
    let one : ℕ = 1 in
    let q : cond (is_unknown (mark_of marks at)) one 0 ≡ one = ap (λ (m : Mark). cond (is_unknown m) one 0) u in
    omega (arith, h, q)

-- a place that becomes a walked one tells as little as before
pub walked_same : (marks : List Mark) (at x : ℕ) → at < length marks → mark_of marks at ≡ Unknown → end_in (mark_of (set marks at Walked) x) ≡ end_in (mark_of marks x)
walked_same marks at x l u = ⊎_elim (λ (e : x ≡ at). ap end_in (ap (mark_of (set marks at Walked)) e ∙ mark_same marks at Walked l) ∙ sym (ap end_in (ap (mark_of marks) e ∙ u))) (λ (ne : x ≢ at). ap end_in (mark_other marks at x Walked ne)) (cases_eq x at)

-- ---- the path

pub in_push : (x at : ℕ) (path : List ℕ) → IsIn x path → IsIn x (path ++ at ∷ [])
in_push x at path h = list_any-append (nat_eq x) path (at ∷ []) ∙ ap (λ b. b || list_any (nat_eq x) (at ∷ [])) h

pub last_in : (at : ℕ) (path : List ℕ) → IsIn at (path ++ at ∷ [])
last_in at path = list_any-append (nat_eq at) path (at ∷ []) ∙ or_right (list_any (nat_eq at) path) _ (ap (λ b. b || false) (eq-eqb at at refl))

all_walked_push : (marks : List Mark) (path : List ℕ) (at : ℕ) → at < length marks → mark_of marks at ≡ Unknown → ((k : ℕ) → k < length path → mark_of marks (get_or path k 0) ≡ Walked) → (k : ℕ) → k < length (path ++ at ∷ []) → mark_of (set marks at Walked) (get_or (path ++ at ∷ []) k 0) ≡ Walked
all_walked_push marks path at l u all k m =
    ⊎_elim (λ (q : k < length path). ap (mark_of (set marks at Walked)) (get_or_append_left path (at ∷ []) 0 k q) ∙ stays marks at _ Walked Walked u walked_unknown (all k q))
    (λ (q : length path ≤ k). ap (mark_of (set marks at Walked)) (get_or_push path at 0 k (omega (arith, q, m, length_push path at))) ∙ mark_same marks at Walked l)
    (cases_lt k (length path))

-- ---- steps

module _ (next : ℕ → Hop) (old : List Mark) where
  pub walk_start : (from : ℕ) → AreRight next old → from < length old → IsWalk next old old [] from from
  walk_start from right l = record {
    inside = l;
    len = refl;
    onwards = λ x w. absurd (right.none_walked x w);
    leads = λ x w. absurd (right.none_walked x w);
    known = right.known;
    kept = λ x ne. refl;
    on_path = λ x w. absurd (right.none_walked x w);
    started = inr refl;
    all_walked = λ k m. absurd (omega arith);
    room = omega (arith, count_by-le-length is_unknown old);
  }

  module _ (marks : List Mark) (path : List ℕ) (from at : ℕ) (w : IsWalk next old marks path from at) where
    kept_set : mark_of marks at ≡ Unknown → (x : ℕ) → mark_of old x ≢ Unknown → mark_of (set marks at Walked) x ≡ mark_of old x
    kept_set u x ne = stays marks at x Walked (mark_of old x) u ne (w.kept x ne)

    known_set : mark_of marks at ≡ Unknown → (x : ℕ) (e : PlaceEnd) → mark_of (set marks at Walked) x ≡ Known e → Ends next x (as_end e)
    known_set u x e m = ⊎_elim (λ (q : (x ≡ at) × (Walked ≡ Known e)). absurd (walked_known e q.1)) (λ (q : (x ≢ at) × (mark_of marks x ≡ Known e)). w.known x e q.1)
        (was_there marks at x Walked (Known e) w.inside m)

    on_path_set : mark_of marks at ≡ Unknown → (x : ℕ) → mark_of (set marks at Walked) x ≡ Walked → IsIn x (path ++ at ∷ [])
    on_path_set u x m = ⊎_elim (λ (q : (x ≡ at) × (Walked ≡ Walked)). subst (λ t. IsIn t (path ++ at ∷ [])) (sym q.0) (last_in at path)) (λ (q : (x ≢ at) × (mark_of marks x ≡ Walked)). in_push x at path (w.on_path x q.1))
        (was_there marks at x Walked Walked w.inside m)

    started_set : mark_of marks at ≡ Unknown → mark_of (set marks at Walked) from ≡ Walked
    started_set u = ⊎_elim (λ (q : mark_of marks from ≡ Walked). stays marks at from Walked Walked u walked_unknown q) (λ (q : from ≡ at). ap (mark_of (set marks at Walked)) q ∙ mark_same marks at Walked w.inside) w.started

    -- an unknown AS that sends to b is walked, and the walk goes on at b
    pub walk_step : (b : ℕ) → mark_of marks at ≡ Unknown → next at ≡ hop.To b → b < length marks → IsWalk next old (set marks at Walked) (path ++ at ∷ []) from b
    walk_step b u s l = record {
      inside = omega (arith, l, length-set marks at Walked);
      len = length-set marks at Walked ∙ w.len;
      onwards = λ x m. onwards x (was_there marks at x Walked Walked w.inside m);
      leads = λ x m e h. leads x e h (was_there marks at x Walked Walked w.inside m);
      known = known_set u;
      kept = kept_set u;
      on_path = on_path_set u;
      started = inl (started_set u);
      all_walked = all_walked_push marks path at w.inside u w.all_walked;
      room = omega (arith, w.room, count_less marks at w.inside u, length_push path at);
    } where
      onwards : (x : ℕ) → (x ≡ at) × (Walked ≡ Walked) ⊎ (x ≢ at) × (mark_of marks x ≡ Walked) → (y : ℕ) × (next x ≡ hop.To y) × ((mark_of (set marks at Walked) y ≡ Walked) ⊎ (y ≡ b))
      onwards x (inl q) = (b, ap next q.0 ∙ s, inr refl)
      onwards x (inr q) = let r : (y : ℕ) × (next x ≡ hop.To y) × ((mark_of marks y ≡ Walked) ⊎ (y ≡ at)) = w.onwards x q.1 in (
        r.0,
        r.1,
        ⊎_elim (λ (k : mark_of marks r.0 ≡ Walked). inl (stays marks at r.0 Walked Walked u walked_unknown k))
            (λ (k : r.0 ≡ at). inl (ap (mark_of (set marks at Walked)) k ∙ mark_same marks at Walked w.inside)) r.2,
      )

      leads : (x : ℕ) (e : End) → Ends next b e → (x ≡ at) × (Walked ≡ Walked) ⊎ (x ≢ at) × (mark_of marks x ≡ Walked) → Ends next x e
      leads x e h (inl q) = subst (λ t. Ends next t e) (sym q.0) (ends_to next at b s e h)
      leads x e h (inr q) = w.leads x q.1 e (ends_to next at b s e h)

    -- it stops at an AS whose end is plain
    pub walk_stop : (e : PlaceEnd) → mark_of marks at ≡ Unknown → Ends next at (as_end e) → IsWalked next old (set marks at Walked) (path ++ at ∷ []) from e
    walk_stop e u h = record {
      len = length-set marks at Walked ∙ w.len;
      walked = λ x m. walked x (was_there marks at x Walked Walked w.inside m);
      known = known_set u;
      kept = kept_set u;
      on_path = on_path_set u;
      started = subst (λ m. m ≢ Unknown) (sym (started_set u)) walked_unknown;
      all_walked = all_walked_push marks path at w.inside u w.all_walked;
    } where
      walked : (x : ℕ) → (x ≡ at) × (Walked ≡ Walked) ⊎ (x ≢ at) × (mark_of marks x ≡ Walked) → Ends next x (as_end e)
      walked x (inl q) = subst (λ t. Ends next t (as_end e)) (sym q.0) h
      walked x (inr q) = w.leads x q.1 (as_end e) h

    started_now : mark_of marks at ≢ Unknown → mark_of marks from ≢ Unknown
    started_now ne = ⊎_elim (λ (q : mark_of marks from ≡ Walked). subst (λ m. m ≢ Unknown) (sym q) walked_unknown) (λ (q : from ≡ at). subst (λ t. mark_of marks t ≢ Unknown) (sym q) ne) w.started

    -- it comes to an AS whose end is known
    pub walk_known : (e : PlaceEnd) → mark_of marks at ≡ Known e → IsWalked next old marks path from e
    walk_known e m = record {
      len = w.len;
      walked = λ x q. w.leads x q (as_end e) (w.known at e m);
      known = w.known;
      kept = w.kept;
      on_path = w.on_path;
      started = started_now (subst (λ m. m ≢ Unknown) (sym m) (known_unknown e));
      all_walked = w.all_walked;
    }

    -- it comes to an AS that it has passed
    pub walk_loops : mark_of marks at ≡ Walked → IsWalked next old marks path from Loops
    walk_loops m = record {
      len = w.len;
      walked = λ x q. ends_loops next (λ y. mark_of marks y ≡ Walked) onwards x q;
      known = w.known;
      kept = w.kept;
      on_path = w.on_path;
      started = started_now (subst (λ m. m ≢ Unknown) (sym m) walked_unknown);
      all_walked = w.all_walked;
    } where
      onwards : (x : ℕ) → mark_of marks x ≡ Walked → (y : ℕ) × (next x ≡ hop.To y) × (mark_of marks y ≡ Walked)
      onwards x q = let r : (y : ℕ) × (next x ≡ hop.To y) × ((mark_of marks y ≡ Walked) ⊎ (y ≡ at)) = w.onwards x q in
          (r.0, r.1, ⊎_elim (λ (k : mark_of marks r.0 ≡ Walked). k) (λ (k : r.0 ≡ at). ap (mark_of marks) k ∙ m) r.2)

-- ---- the places of the path get the end

pub not_in_push : (x at : ℕ) (path : List ℕ) → list_any (nat_eq x) (path ++ at ∷ []) ≡ false → (x ≢ at) × (list_any (nat_eq x) path ≡ false)
not_in_push x at path f = (
  λ e. true≢false (sym (subst (λ t. IsIn t (path ++ at ∷ [])) (sym e) (last_in at path)) ∙ f),
  ⊎_elim (λ (h : IsIn x path). absurd (true≢false (sym (in_push x at path h) ∙ f))) (λ h. h) (cases_Bool (list_any (nat_eq x) path)),
)

pub in_pushed : (x at : ℕ) (path : List ℕ) → IsIn x (path ++ at ∷ []) → (x ≡ at) ⊎ IsIn x path
in_pushed x at path h = ⊎_elim (λ (e : IsIn x path). inr e) (λ (e : list_any (nat_eq x) (at ∷ []) ≡ true). inl (one e))
    (or_cases (list_any (nat_eq x) path) (list_any (nat_eq x) (at ∷ [])) (sym (list_any-append (nat_eq x) path (at ∷ [])) ∙ h))
  where
    one : list_any (nat_eq x) (at ∷ []) ≡ true → x ≡ at
    one e = ⊎_elim (λ q. eqb-true x at q) (λ (q : false ≡ true). absurd (true≢false (sym q))) (or_cases (nat_eq x at) false e)

pub settling_more : (old marks : List Mark) (front : List ℕ) (end : PlaceEnd) (at : ℕ) → at < length marks → IsSettling old marks front end → IsSettling old (set marks at (Known end)) (front ++ at ∷ []) end
settling_more old marks front end at l s = record {
  len = length-set marks at (Known end) ∙ s.len;
  done = λ x h. ⊎_elim (λ (e : x ≡ at). ap (mark_of (set marks at (Known end))) e ∙ mark_same marks at (Known end) l)
      (λ (e : x ≢ at). mark_other marks at x (Known end) e ∙ s.done x (before x e (in_pushed x at front h))) (cases_eq x at);
  rest = λ x f. let q : (x ≢ at) × (list_any (nat_eq x) front ≡ false) = not_in_push x at front f in mark_other marks at x (Known end) q.0 ∙ s.rest x q.1;
} where
  before : (x : ℕ) → x ≢ at → (x ≡ at) ⊎ IsIn x front → IsIn x front
  before x ne (inl e) = absurd (ne e)
  before x ne (inr e) = e

pub settled : (next : ℕ → Hop) (old walked marks : List Mark) (path : List ℕ) (from : ℕ) (end : PlaceEnd) → AreRight next old → IsWalked next old walked path from end → IsSettling walked marks path end → Settles next old marks from
settled next old walked marks path from end right w s = record {
  len = s.len ∙ w.len;
  right = record {
    known = λ x e m. ⊎_elim (λ (h : IsIn x path). let q : Known end ≡ Known e = sym (s.done x h) ∙ m in subst (λ t. Ends next x (as_end t)) (known_same end e q) (w.walked x (on x h)))
        (λ h. w.known x e (sym (s.rest x h) ∙ m)) (cases_Bool (list_any (nat_eq x) path));
    none_walked = λ x m. ⊎_elim (λ (h : IsIn x path). walked_known end (sym m ∙ s.done x h))
        (λ h. true≢false (sym (w.on_path x (sym (s.rest x h) ∙ m)) ∙ h)) (cases_Bool (list_any (nat_eq x) path));
  };
  kept = λ x ne. ⊎_elim (λ (h : IsIn x path). absurd (right.none_walked x (sym (w.kept x ne) ∙ on x h)))
      (λ h. s.rest x h ∙ w.kept x ne) (cases_Bool (list_any (nat_eq x) path));
  known = ⊎_elim (λ (h : IsIn from path). subst (λ m. m ≢ Unknown) (sym (s.done from h)) (known_unknown end))
      (λ h. subst (λ m. m ≢ Unknown) (sym (s.rest from h)) w.started) (cases_Bool (list_any (nat_eq from) path));
} where
  on : (x : ℕ) → IsIn x path → mark_of walked x ≡ Walked
  on x h = let r : (k : ℕ) × (k < length path) × (get_or path k 0 ≡ x) = in_at x path h in ap (mark_of walked) (sym r.2) ∙ w.all_walked r.0 r.1

  known_same : (a b : PlaceEnd) → Known a ≡ Known b → a ≡ b
  known_same a b q = cc

-- ---- all places

pub mark_cases : (m : Mark) → m ≢ Unknown → m ≢ Walked → (e : PlaceEnd) × (m ≡ Known e)
mark_cases Unknown u w = absurd (u refl)
mark_cases Walked u w = absurd (w refl)
mark_cases (Known e) u w = (e, refl)

pub ends_from_marks : (next : ℕ → Hop) (n : ℕ) (marks : List Mark) → length marks ≡ n → AreRight next marks → ((x : ℕ) → x < n → mark_of marks x ≢ Unknown) → AreEnds next n marks
ends_from_marks next n marks len right all = record {
  len = len;
  ends = λ x l. let m : (e : PlaceEnd) × (mark_of marks x ≡ Known e) = mark_cases (mark_of marks x) (all x l) (right.none_walked x) in
      ∣ (m.0, m.1, right.known x m.0 m.1) ∣₁;
}

pub settling_none : (old : List Mark) (end : PlaceEnd) → IsSettling old old [] end
settling_none old end = record { len = refl; done = λ x h. absurd (true≢false (sym h)); rest = λ x h. refl }

pub walked_inside : (marks : List Mark) (x : ℕ) → mark_of marks x ≡ Walked → x < length marks
walked_inside marks x m = ⊎_elim (λ l. l) (λ (g : length marks ≤ x). absurd (walked_unknown (sym m ∙ get_or_past marks x Unknown g))) (cases_lt x (length marks))
