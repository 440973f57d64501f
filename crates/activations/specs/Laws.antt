-- What a file of activations says, said of all its lines at once.
use Rattle.std.specs.Prelude.{◌≡◌, ◌⊎◌, ◌↔◌, ℕ, ◌≤◌, List, ◌∷◌, ◌++◌, map as each, length, Option, Some, Ok}
use Rattle.std.proofs.Common.{inl, inr}
use Rattle.std.specs.List.{flat_map}
use Rattle.std.specs.Option.{option_or}
use Rattle.std.specs.FinMap as map
use Rattle.net_names.specs.Lines.{kept_from}
use Rattle.net_names.specs.Numbers.{IsDistinct}
use Rattle.scenario_text.specs.Forms.{for_of, form}
use Rattle.stability_laws.specs.declared.entry.Entry.{Entry}
use Rattle.activations.specs.declared.acts.Acts.{Acts}
use Rattle.activations.specs.declared.reading.TheConstants.{MOST_ACTIVATIONS}
use Rattle.activations.specs.Files.{act_of, acts_by, hold_of}

-- what a line says behind the first: what an AS holds, or which ASes are activated (own format)
abbrev pub said_by : List ℕ → Option ((ℕ × Entry) ⊎ List ℕ)
said_by text = option_or (form "hold " hold_of (λ x. inl x) text) (form "act " act_of (λ x. inr x) text)

-- the lines say first what ASes hold, of each AS once, and then which ASes are activated, at most 1,000,000: with the numbers of the lines these are `holds` and `runs` (own format)
pub record AreSaid (lines : List (ℕ × List ℕ)) (acts : Acts) : Type 0 where
  pub holds : List (ℕ × (ℕ × Entry))
  pub runs : List (ℕ × List ℕ)
  pub say : each {B = ℕ × Option ((ℕ × Entry) ⊎ List ℕ)} (λ l. (l.0, said_by l.1)) lines ≡ each (λ h. (h.0, Some (inl h.1))) holds ++ each (λ r. (r.0, Some (inr r.1))) runs
  pub once : IsDistinct (each (λ h. h.1.0) holds)
  pub few : length acts.list ≤ MOST_ACTIVATIONS
  pub held : acts.held ≡ map.from_entries (each (λ h. h.1) holds)
  pub list : acts.list ≡ flat_map (λ r. r.1) runs
  pub named : acts.named ≡ each (λ h. (h.0, h.1.0)) holds ++ flat_map (λ r. each (λ a. (r.0, a)) r.1) runs

-- the first line names the round and the prefix, and the others are those of `AreSaid` (own format)
pub record IsFile (lines : List (ℕ × List ℕ)) (acts : Acts) : Type 0 where
  pub text : List ℕ
  pub rest : List (ℕ × List ℕ)
  pub lines_are : lines ≡ (acts.for_line, text) ∷ rest
  pub names : for_of text ≡ Some (acts.round, acts.prefix)
  pub said : AreSaid rest acts

-- a file is accepted, and says this, exactly where its lines that aren't skipped do (own format)
abbrev pub ActsAreThoseSaid : Type 0
ActsAreThoseSaid = (bytes : List ℕ) (acts : Acts) → (acts_by (kept_from 1 bytes) ≡ Ok acts) ↔ IsFile (kept_from 1 bytes) acts
