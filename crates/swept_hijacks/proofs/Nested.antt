-- In one trial the adopters are among those of each greater number of adopters.
use Rattle.std.proofs.Common.{◌≡◌, ℕ, zero, suc, ◌≤◌, Bool, true, false, true≢false, ◌||◌, ◌==◌, IsTrue, if◌then◌else◌, List, [], ◌∷◌, take, refl, sym, ◌∙◌, ap, arith}
use Rattle.net_names.specs.Numbers.{occurs}
use Rattle.as_graph.specs.Topology.{has}
use Rattle.policy_kinds.specs.declared.kind.Kind.{Kind}
use Rattle.policy_kinds.specs.declared.kind.Kind.TheVariants.{Plain}
use Rattle.sim_core.specs.World.{World, kind_at, topology}
use Rattle.trial_world.specs.Sweeps.{with_kinds}
use Rattle.routing_laws.specs.KindLaws.{is_dropper, undropping}
use Rattle.swept_hijacks.specs.Numbers.{OnlyAdds}
use Rattle.trial_world.proofs.TrialWorlds.{kind_given}

-- the kinds where the first ASes of the list adopt one
abbrev pub adopt : Kind → (ℕ → Kind) → List ℕ → ℕ → ℕ → Kind
adopt kind kinds order k a = if occurs a (take k order) then kind else kinds a

pub taken : (order : List ℕ) (few many a : ℕ) → few ≤ many → occurs a (take few order) ≡ true → occurs a (take many order) ≡ true
taken order zero many a le e = absurd (true≢false (sym e))
taken [] (suc few) many a le e = absurd (true≢false (sym e))
taken (x ∷ order) (suc few) zero a le e = absurd (omega (arith, le))
taken (x ∷ order) (suc few) (suc many) a le e = by (x == a) e (taken order few many a (omega (arith, le)))
  where
    by : (t : Bool) → (t || occurs a (take few order)) ≡ true → (occurs a (take few order) ≡ true → occurs a (take many order) ≡ true) → (t || occurs a (take many order)) ≡ true
    by true e go = refl
    by false e go = go e

module _ (kind : Kind) (drops : IsTrue (is_dropper kind)) (kinds : ℕ → Kind) (alike : (a : ℕ) → undropping (kinds a) ≡ undropping kind) (order : List ℕ) (few many : ℕ) (le : few ≤ many) where
  else_kind : (k a : ℕ) → undropping (adopt kind kinds order k a) ≡ undropping kind
  else_kind k a = by (occurs a (take k order))
    where
      by : (t : Bool) → undropping (if t then kind else kinds a) ≡ undropping kind
      by true = refl
      by false = alike a

  more_drop : (a : ℕ) → IsTrue (is_dropper (adopt kind kinds order few a)) → IsTrue (is_dropper (adopt kind kinds order many a))
  more_drop a = by (occurs a (take few order)) (occurs a (take many order)) (taken order few many a le)
    where
      by : (s t : Bool) → (s ≡ true → t ≡ true) → IsTrue (is_dropper (if s then kind else kinds a)) → IsTrue (is_dropper (if t then kind else kinds a))
      by true true imp e = drops
      by true false imp e = absurd (true≢false (sym (imp refl)))
      by false true imp e = drops
      by false false imp e = e

  pub only_adds : (w : World) → OnlyAdds (kind_at (with_kinds w (adopt kind kinds order few))) (kind_at (with_kinds w (adopt kind kinds order many)))
  only_adds w = record {
    else_same = λ a. ap undropping (kind_given w (adopt kind kinds order few) a) ∙ same a (has (topology w) a) ∙ sym (ap undropping (kind_given w (adopt kind kinds order many) a));
    added = λ a e. ap is_dropper (kind_given w (adopt kind kinds order many) a) ∙ more a (has (topology w) a) (sym (ap is_dropper (kind_given w (adopt kind kinds order few) a)) ∙ e);
  }
    where
      same : (a : ℕ) (t : Bool) → undropping (if t then adopt kind kinds order few a else Plain) ≡ undropping (if t then adopt kind kinds order many a else Plain)
      same a true = else_kind few a ∙ sym (else_kind many a)
      same a false = refl

      more : (a : ℕ) (t : Bool) → IsTrue (is_dropper (if t then adopt kind kinds order few a else Plain)) → IsTrue (is_dropper (if t then adopt kind kinds order many a else Plain))
      more a true e = more_drop a e
      more a false e = e
