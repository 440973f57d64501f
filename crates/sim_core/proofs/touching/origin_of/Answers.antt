use Rattle.std.proofs.Common.{◌≡◌, ◌∙◌, ℕ, List, [], ◌∷◌, Some, option_map, refl, ap}
use Rattle.std.specs.Prelude.{slice_get}
use Rattle.net_names.specs.Numbers.{last_or}
use Rattle.sim_core.proofs.touching.origin_of.Goals as goal

same_some : (x y : List ℕ) → Some x ≡ Some y → x ≡ y
same_some x y e = cc

last_there : (path : List ℕ) (b : ℕ) → slice_get path 0 ≡ Some b → option_map (λ _. last_or 0 path) (slice_get path 0) ≡ Some (last_or 0 path)
last_there [] b h = cc
last_there (x ∷ xs) b h = refl

pub returns-in-Some : goal.returns-in-Some
returns-in-Some c path at =
    let whole : c.as_slice.result.now ≡ path = c.as_slice.ensures ∙ same_some c.in-Some.path.now path (c.in-Some.ensures.value ∙ at) in
    c.last_of.ensures ∙ (ap (λ (l : List ℕ). option_map (λ _. last_or 0 l) (slice_get l 0)) whole ∙ last_there path c.args.asn (c.in-Some.ensures.sound.starts c.args.prefix c.args.asn path at))
