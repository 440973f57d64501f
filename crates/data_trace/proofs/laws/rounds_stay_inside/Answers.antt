use Rattle.std.proofs.Common.{◌≡◌, ℕ, Bool, true, false, Option, Some, None, refl, sym, ◌∙◌, ap, subst}
use Rattle.std.specs.Prelude.{slice_get}
use Rattle.net_names.specs.Prefixes.{PrefixValue}
use Rattle.net_names.specs.declared.routes.Rel.{Rel}
use Rattle.as_graph.specs.Topology.{relation, has}
use Rattle.as_graph.proofs.EditsLemmas.{links_are_sound_lem}
use Rattle.stability_laws.specs.declared.entry.Entry.{Entry}
use Rattle.stability_laws.specs.Offers.{Setting}
use Rattle.stability_laws.specs.World.{setting}
use Rattle.stability_laws.specs.Plans.{has_prefix}
use Rattle.stability_laws.proofs.PathEnds.{path_goes_on}
use Rattle.data_trace.specs.Hops.{second_of}
use Rattle.data_trace.proofs.laws.rounds_stay_inside.Goals as goal

-- where an entry's path goes on to an AS of the graph, that is the second AS
second_is : (S : ℕ → Type 0) (held : Option Entry) (b : ℕ) → second_of held ≡ Some b → ((e : Entry) → held ≡ Some e → (d : ℕ) × (slice_get e.path 1 ≡ Some d) × S d) → S b
second_is S None b s f = absurd (let k : None ≡ Some b = s in cc)
second_is S (Some e) b s f =
    let q : (d : ℕ) × (slice_get e.path 1 ≡ Some d) × S d = f e refl in
    let k : q.0 ≡ b = (let h : Some q.0 ≡ Some b = sym q.1 ∙ s in cc) in
    subst S k q.2

nothing : (S : ℕ → Type 0) (held : Option Entry) (b : ℕ) → second_of held ≡ Some b → held ≡ None → S b
nothing S held b s e = absurd (let k : None ≡ Some b = sym (ap second_of e) ∙ s in cc)

by_prefix : (there : Bool) (A : Type 0) → (there ≡ true → A) → (there ≡ false → A) → A
by_prefix true A f g = f refl
by_prefix false A f g = g refl

pub returns : goal.returns
returns t c = λ w book state plan rounds g sound is before within held of prefix a b free second.
    let here : PrefixValue → Setting = λ p. setting t.P.RoutePolicy.meaning w book (state p) in
    let ends : (p : PrefixValue) (a b : ℕ) (r : Rel) → relation w a b ≡ Some r → has w b ≡ true = λ p. links_are_sound_lem.ends w in
    by_prefix (has_prefix plan prefix) (has w b ≡ true)
    (λ there. second_is (λ d. has w d ≡ true) (held prefix a) b second (λ e h. path_goes_on here ends plan sound rounds g is before prefix within there a e (sym (of.stable prefix there a) ∙ h) free))
    (λ none. nothing (λ d. has w d ≡ true) (held prefix a) b second (of.others prefix none a))
