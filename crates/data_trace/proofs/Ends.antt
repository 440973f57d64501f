-- Ends of packets, by how far they go: the local rules that a walk needs, and that there is at most one end.
use Rattle.std.proofs.Common.{◌≡◌, ℕ, zero, suc, true, Some, None, refl, sym, ◌∙◌, ap, subst}
use Rattle.std.specs.Option.{is_some}
use Rattle.data_trace.specs.declared.kinds.Hop.{Hop}
use Rattle.data_trace.specs.declared.kinds.Hop.TheVariants.{Here, To, NoRoute}
use Rattle.data_trace.specs.declared.kinds.End.{End}
use Rattle.data_trace.specs.declared.kinds.End.TheVariants as the_end
use Rattle.data_trace.specs.Steps.{onward, reached, Ends}

pub reached-to : (next : ℕ → Hop) (a b n : ℕ) → next a ≡ To b → reached next (suc n) a ≡ reached next n b
reached-to next a b n e = ap (λ h. onward h (λ c. reached next n c)) e

none_some : (c : ℕ) → None ≡ Some c → ⊥
none_some c e = cc

-- ---- the local rules

pub ends_here : (next : ℕ → Hop) (a : ℕ) → next a ≡ Here → Ends next a (the_end.At a)
ends_here next a h = (0, refl, h)

pub ends_lost : (next : ℕ → Hop) (a : ℕ) → next a ≡ NoRoute → Ends next a the_end.NoRoute
ends_lost next a h = (0, a, refl, h)

loops_to : (next : ℕ → Hop) (a b : ℕ) → next a ≡ To b → Ends next b the_end.Loop → (n : ℕ) → is_some (reached next n a) ≡ true
loops_to next a b e h zero = refl
loops_to next a b e h (suc n) = ap is_some (reached-to next a b n e) ∙ h n

-- an AS that sends to b ends as b does
pub ends_to : (next : ℕ → Hop) (a b : ℕ) → next a ≡ To b → (end : End) → Ends next b end → Ends next a end
ends_to next a b e (the_end.At c) h = (suc h.0, reached-to next a b h.0 e ∙ h.1, h.2)
ends_to next a b e the_end.NoRoute h = (suc h.0, h.1, reached-to next a b h.0 e ∙ h.2, h.3)
ends_to next a b e the_end.Loop h = loops_to next a b e h

-- where each AS of a set sends to an AS of the set, all loop
pub ends_loops : (next : ℕ → Hop) (S : ℕ → Type 0) → ((x : ℕ) → S x → (y : ℕ) × (next x ≡ To y) × S y) → (x : ℕ) → S x → Ends next x the_end.Loop
ends_loops next S onwards x h = λ n. go n x h
  where
    go : (n x : ℕ) → S x → is_some (reached next n x) ≡ true
    go zero x h = refl
    go (suc n) x h = let s : (y : ℕ) × (next x ≡ To y) × S y = onwards x h in ap is_some (reached-to next x s.0 n s.1) ∙ go n s.0 s.2

-- ---- what is reached from a set that no packet leaves is in the set

pub ends_in : (next : ℕ → Hop) (S : ℕ → Type 0) → ((x y : ℕ) → S x → next x ≡ To y → S y) → (n x c : ℕ) → S x → reached next n x ≡ Some c → S c
ends_in next S closed zero x c s r = let e : x ≡ c = cc in subst S e s
ends_in next S closed (suc n) x c s r = by (next x) refl r (λ y t q. ends_in next S closed n y c t q)
  where
    by : (t : Hop) → next x ≡ t → onward t (λ b. reached next n b) ≡ Some c → ((y : ℕ) → S y → reached next n y ≡ Some c → S c) → S c
    by Here e r f = absurd (none_some c r)
    by NoRoute e r f = absurd (none_some c r)
    by (To y) e r f = f y (closed x y s e) r

-- ---- an end stays where the next hops on the way stay

pub reached-same : (next other : ℕ → Hop) (S : ℕ → Type 0) → ((x : ℕ) → S x → other x ≡ next x) → ((x y : ℕ) → S x → next x ≡ To y → S y) → (n x : ℕ) → S x → reached other n x ≡ reached next n x
reached-same next other S same closed zero x h = refl
reached-same next other S same closed (suc n) x h = ap (λ t. onward t (λ c. reached other n c)) (same x h) ∙ by (next x) refl (λ y. reached-same next other S same closed n y)
  where
    by : (t : Hop) → next x ≡ t → ((y : ℕ) → S y → reached other n y ≡ reached next n y) → onward t (λ c. reached other n c) ≡ onward t (λ c. reached next n c)
    by Here e f = refl
    by NoRoute e f = refl
    by (To y) e f = f y (closed x y h e)

-- in a set that no packet leaves and whose next hops stay, the ends stay
pub ends_same : (next other : ℕ → Hop) (S : ℕ → Type 0) → ((x : ℕ) → S x → other x ≡ next x) → ((x y : ℕ) → S x → next x ≡ To y → S y) → (x : ℕ) → S x → (end : End) → Ends next x end → Ends other x end
ends_same next other S same closed x s (the_end.At c) h = (h.0, reached-same next other S same closed h.0 x s ∙ h.1, same c (last_in h.0 x s h.1) ∙ h.2)
  where
    last_in : (n y : ℕ) → S y → reached next n y ≡ Some c → S c
    last_in n y t r = ends_in next S closed n y c t r
ends_same next other S same closed x s the_end.NoRoute h = (h.0, h.1, reached-same next other S same closed h.0 x s ∙ h.2, same h.1 (ends_in next S closed h.0 x h.1 s h.2) ∙ h.3)
ends_same next other S same closed x s the_end.Loop h = λ n. ap is_some (reached-same next other S same closed n x s) ∙ h n

-- ---- at most one end

back : (next : ℕ → Hop) (a b : ℕ) → next a ≡ To b → (end : End) → Ends next a end → Ends next b end
back next a b e (the_end.At c) h = by h.0 h.1
  where
    by : (n : ℕ) → reached next n a ≡ Some c → Ends next b (the_end.At c)
    by zero r = let k : a ≡ c = cc in let f : Here ≡ To b = sym h.2 ∙ ap next (sym k) ∙ e in cc
    by (suc n) r = (n, sym (reached-to next a b n e) ∙ r, h.2)
back next a b e the_end.NoRoute h = by h.0 h.2
  where
    by : (n : ℕ) → reached next n a ≡ Some h.1 → Ends next b the_end.NoRoute
    by zero r = let k : a ≡ h.1 = cc in let f : NoRoute ≡ To b = sym h.3 ∙ ap next (sym k) ∙ e in cc
    by (suc n) r = (n, h.1, sym (reached-to next a b n e) ∙ r, h.3)
back next a b e the_end.Loop h = λ n. ap is_some (sym (reached-to next a b n e)) ∙ h (suc n)

here_end : (next : ℕ → Hop) (c : ℕ) → next c ≡ Here → (end : End) → Ends next c end → end ≡ the_end.At c
here_end next c e (the_end.At d) h = by h.0 h.1
  where
    by : (n : ℕ) → reached next n c ≡ Some d → the_end.At d ≡ the_end.At c
    by zero r = cc
    by (suc n) r = absurd (none_some d (sym (ap (λ t. onward t (λ b. reached next n b)) e) ∙ r))
here_end next c e the_end.NoRoute h = by h.0 h.2
  where
    by : (n : ℕ) → reached next n c ≡ Some h.1 → the_end.NoRoute ≡ the_end.At c
    by zero r = let k : c ≡ h.1 = cc in let f : Here ≡ NoRoute = sym e ∙ ap next k ∙ h.3 in cc
    by (suc n) r = absurd (none_some h.1 (sym (ap (λ t. onward t (λ b. reached next n b)) e) ∙ r))
here_end next c e the_end.Loop h = let f : is_some (onward Here (λ b. reached next 0 b)) ≡ true = ap (λ t. is_some (onward t (λ b. reached next 0 b))) (sym e) ∙ h 1 in cc

lost_end : (next : ℕ → Hop) (c : ℕ) → next c ≡ NoRoute → (end : End) → Ends next c end → end ≡ the_end.NoRoute
lost_end next c e (the_end.At d) h = by h.0 h.1
  where
    by : (n : ℕ) → reached next n c ≡ Some d → the_end.At d ≡ the_end.NoRoute
    by zero r = let k : c ≡ d = cc in let f : NoRoute ≡ Here = sym e ∙ ap next k ∙ h.2 in cc
    by (suc n) r = absurd (none_some d (sym (ap (λ t. onward t (λ b. reached next n b)) e) ∙ r))
lost_end next c e the_end.NoRoute h = refl
lost_end next c e the_end.Loop h = let f : is_some (onward NoRoute (λ b. reached next 0 b)) ≡ true = ap (λ t. is_some (onward t (λ b. reached next 0 b))) (sym e) ∙ h 1 in cc

-- where a packet from a comes to c, a ends as c does
forth : (next : ℕ → Hop) (n a c : ℕ) → reached next n a ≡ Some c → (end : End) → Ends next a end → Ends next c end
forth next zero a c r end h = let e : a ≡ c = cc in subst (λ t. Ends next t end) e h
forth next (suc n) a c r end h = by (next a) refl r (λ b q k. forth next n b c q end k)
  where
    by : (t : Hop) → next a ≡ t → onward t (λ b. reached next n b) ≡ Some c → ((b : ℕ) → reached next n b ≡ Some c → Ends next b end → Ends next c end) → Ends next c end
    by Here e r f = absurd (none_some c r)
    by NoRoute e r f = absurd (none_some c r)
    by (To b) e r f = f b r (back next a b e end h)

pub one_end : (next : ℕ → Hop) (a : ℕ) (e f : End) → Ends next a e → Ends next a f → f ≡ e
one_end next a (the_end.At c) f h k = here_end next c h.2 f (forth next h.0 a c h.1 f k)
one_end next a the_end.NoRoute f h k = lost_end next h.1 h.3 f (forth next h.0 a h.1 h.2 f k)
one_end next a the_end.Loop (the_end.At c) h k = sym (here_end next c k.2 the_end.Loop (forth next k.0 a c k.1 the_end.Loop h))
one_end next a the_end.Loop the_end.NoRoute h k = sym (lost_end next k.1 k.3 the_end.Loop (forth next k.0 a k.1 k.2 the_end.Loop h))
one_end next a the_end.Loop the_end.Loop h k = refl
