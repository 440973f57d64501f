-- The forms of a script's line, a row each; a later form is a further row (own format).
-- The fields of a line have exactly one space or one `|` between, since no field's grammar has either in it or an empty text.
use Prim.Native.String.{String}
use Rattle.std.specs.Prelude.{ℕ, not, ◌&&◌, ◌==◌, List, [], ◌∷◌, length, map, fold, nat_le, bytes_eq, codes, Option, option_map}
use Rattle.std.specs.Bool.{then_some}
use Rattle.std.specs.List.{list_all}
use Rattle.std.specs.Option.{is_some, option_or, option_zip, some_prefix}
use Rattle.net_names.specs.Payloads.{VrpValue, vrp_at}
use Rattle.net_names.specs.Prefixes.{PrefixValue}
use Rattle.net_names.specs.Steps.{◌>>=◌, option_filter}
use Rattle.net_names.specs.Texts.{after, cut_at, fields, numeral, asn_of, vrp_asn_of, prefix_of, addr_of, rel_of}
use Rattle.policy_kinds.specs.Names.{kind_named}
use Rattle.scenario_text.specs.declared.acts.Act.{Act}
use Rattle.scenario_text.specs.declared.acts.Act.TheVariants as act
use Rattle.scenario_text.specs.declared.acts.Act.TheVariants.{Edit}
use Rattle.scenario_text.specs.declared.acts.Edit.TheVariants.{Link, Unlink, Policy, VrpAdd, VrpTake, Announce, Withdraw}
use Rattle.scenario_text.specs.declared.acts.Query.{Query}
use Rattle.scenario_text.specs.declared.acts.Query.TheVariants.{Routes, Route, Trace, Report, Ranks, Validity}
use Rattle.scenario_text.specs.declared.limits.TheConstants.{MOST_NUMBERS}

-- two fields, the first of which ends at the first such byte, each by its grammar: 32 is a space, and 124 is `|` (own format)
unfoldable pub pair : {A B : Type 0} → ℕ → (List ℕ → Option A) → (List ℕ → Option B) → List ℕ → Option (A × B)
pair byte first second text = cut_at byte text >>= λ p. option_zip (first p.0) (second p.1)

-- N P M: the payload of that number, prefix and greatest length, which is 1 to 3 digits and from the prefix's length to the family's width (own format)
unfoldable pub vrp_of : List ℕ → Option VrpValue
vrp_of t = pair 32 vrp_asn_of (pair 32 prefix_of (numeral 10 3)) t >>= λ v. vrp_at v.1.0 v.1.1 v.0

-- 1 to 64 numbers, each in this grammar, with one space between (own format)
unfoldable pub few_numbers : (List ℕ → Option ℕ) → List ℕ → Option (List ℕ)
few_numbers number text = let ns = map number (fields 32 text) in
    then_some (list_all is_some ns && nat_le (length ns) MOST_NUMBERS) (some_prefix ns)

-- a line that begins with this word, and goes on with these fields, asks for this (own format)
abbrev pub form : {A B : Type 0} → String → (List ℕ → Option A) → (A → B) → List ℕ → Option B
form word fields asks line = option_map asks (after (codes word) line >>= fields)

-- `for R P` names the round R, which is 1 to 9 digits, and the prefix P (own format)
unfoldable pub for_of : List ℕ → Option (ℕ × PrefixValue)
for_of = form "for " (pair 32 (numeral 10 9) prefix_of) (λ x. x)

-- the forms of queries: all ranks; of round R the table of prefix P, the row of AS A in it, the trace from A to address D, and the counts for D; the state of P with origin A. A round is 1 to 9 digits; leading zeros are allowed (own format)
unfoldable pub query_of : List ℕ → Option Query
query_of l = fold option_or (then_some (bytes_eq l (codes "ranks")) Ranks) (map (λ f. f l) (
    form "routes " (pair 32 (numeral 10 9) prefix_of) (λ x. Routes x.0 x.1) ∷
    form "route " (pair 32 (numeral 10 9) (pair 32 prefix_of asn_of)) (λ x. Route x.0 x.1.0 x.1.1) ∷
    form "trace " (pair 32 (numeral 10 9) (pair 32 asn_of addr_of)) (λ x. Trace x.0 x.1.0 x.1.1) ∷
    form "report " (pair 32 (numeral 10 9) addr_of) (λ x. Report x.0 x.1) ∷
    form "validity " (pair 32 prefix_of asn_of) (λ x. Validity x.0 x.1) ∷ []))

-- what a line asks for: it has the form of a query, or of an edit: A|B|-1 makes A the provider of B, A|B|0 makes them peers, and A and B differ; a kind is of A; the first AS of the path A B .. announces P (own format)
unfoldable pub act_of : List ℕ → Option Act
act_of l = fold option_or (option_map act.Query (query_of l)) (map (λ f. option_map Edit (f l)) (
    form "link " (λ t. option_filter (λ x. not (x.0 == x.1.0)) (pair 124 asn_of (pair 124 asn_of rel_of) t)) (λ x. Link x.0 x.1.0 x.1.1) ∷
    form "unlink " (λ t. option_filter (λ x. not (x.0 == x.1)) (pair 124 asn_of asn_of t)) (λ x. Unlink x.0 x.1) ∷
    form "policy " (pair 32 asn_of kind_named) (λ x. Policy x.0 x.1) ∷
    form "vrp-add " vrp_of VrpAdd ∷ form "vrp-take " vrp_of VrpTake ∷
    form "announce " (pair 32 prefix_of (few_numbers asn_of)) (λ x. Announce x.0 x.1) ∷
    form "withdraw " (pair 32 prefix_of asn_of) (λ x. Withdraw x.0 x.1) ∷ []))
