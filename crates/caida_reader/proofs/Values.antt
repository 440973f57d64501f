-- What lines come to, judged one after the other, and what they stand for as a whole.
use Rattle.std.proofs.Common.{◌≡◌, ℕ, ◌+◌, Bool, true, false, cond, List, [], ◌∷◌, ◌++◌, map, length, length-append, Option, Some, None, Result, Ok, refl, sym, ap, ◌∙◌, arith, append-nil, append_assoc, if◌then◌else◌}
use Rattle.std.specs.Ordering.{eq_by_cmp}
use Rattle.std.specs.Option.{is_some, option_or}
use Rattle.std.specs.FinMap.{find, insert, from_entries, get-from_entries, same_map, from_entries_push}
use Rattle.net_names.specs.Steps as steps
use Rattle.net_names.specs.Steps.{unless}
use Rattle.net_names.specs.Links.{pair_cmp, LinkMap}
use Rattle.net_names.specs.declared.routes.Rel.{Rel}
use Rattle.net_names.proofs.Pairs.{exact_pair, pairs_total}
use Rattle.caida_reader.specs.Value.{links_in, numbered, fault_after}
use Rattle.caida_reader.specs.Laws.{value_of}
use Rattle.caida_reader.specs.Firsts.{firsts, with_first, with_said, relations, link_at}
use Rattle.caida_reader.specs.Progress.{value_from}
use Rattle.caida_reader.specs.declared.line.Line.{Line}
use Rattle.caida_reader.specs.declared.line.Line.TheVariants.{Skipped, Unreadable, SelfLink, Link}
use Rattle.caida_reader.specs.declared.firsts.First.{First}
use Rattle.caida_reader.specs.declared.errors.RelError.{RelError}
use Rattle.caida_reader.proofs.PairLemmas.{same_pair}
use Rattle.caida_reader.proofs.LinkLemmas.{relations-from_entries}

abbrev Entries : Type 0
Entries = List ((ℕ × ℕ) × First)

-- what is found in front, or else behind
or_behind : (b : Bool) (x : First) (o p : Option First) → cond b (Some x) (option_or o p) ≡ option_or (cond b (Some x) o) p
or_behind true x o p = refl
or_behind false x o p = refl

pub find-append : (es fs : Entries) (q : ℕ × ℕ) → find pair_cmp q (es ++ fs) ≡ option_or (find pair_cmp q es) (find pair_cmp q fs)
find-append [] fs q = refl
find-append (e ∷ es) fs q = ap (cond (eq_by_cmp pair_cmp q e.0) (Some e.1)) (find-append es fs q) ∙ or_behind (eq_by_cmp pair_cmp q e.0) e.1 (find pair_cmp q es) (find pair_cmp q fs)

stays : (b : Bool) (o : Option First) (x v : First) → (b ≡ true → o ≡ Some x) → option_or o (cond b (Some v) None) ≡ o
stays true o x v h = rw (h refl) refl
stays false None x v h = refl
stays false (Some y) x v h = refl

-- a pair that stands gives nothing new
again : (es : Entries) (k : ℕ × ℕ) (v x : First) → find pair_cmp k es ≡ Some x → from_entries {R = pair_cmp} (es ++ (k, v) ∷ []) ≡ from_entries es
again es k v x there = same_map pairs_total exact_pair _ _ (λ q.
    get-from_entries pairs_total (es ++ (k, v) ∷ []) q ∙ find-append es ((k, v) ∷ []) q
    ∙ stays (eq_by_cmp pair_cmp q k) (find pair_cmp q es) x v (λ ties. ap (λ p. find pair_cmp p es) (same_pair q k ties) ∙ there)
    ∙ sym (get-from_entries pairs_total es q))

-- one pair more
pub push : (es : Entries) (k : ℕ × ℕ) (v : First) → from_entries {R = pair_cmp} (es ++ (k, v) ∷ []) ≡ with_first (from_entries es) k v
push es k v =
    (elim (find pair_cmp k es) as (λ o. find pair_cmp k es ≡ o → from_entries {R = pair_cmp} (es ++ (k, v) ∷ []) ≡ (if is_some o then from_entries es else insert (from_entries es) k v)) [
      | None ↦ λ none. from_entries_push pairs_total exact_pair es k v none
      | Some x ↦ λ there. again es k v x there
    ]) refl
    ∙ ap (λ o. if is_some o then from_entries es else insert (from_entries es) k v) (sym (get-from_entries pairs_total es k))

numbered-append : (line : ℕ) (before : List Line) (said : Line) → numbered line (before ++ said ∷ []) ≡ numbered line before ++ numbered (line + length before) (said ∷ [])
numbered-append line [] said = ap (λ n. numbered n (said ∷ [])) (omega arith)
numbered-append line (Link lo hi rel ∷ before) said = ap (λ es. ((lo, hi), record { rel = rel; line = line }) ∷ es) (numbered-append (line + 1) before said ∙ ap (λ n. numbered (line + 1) before ++ numbered n (said ∷ [])) (omega arith))
numbered-append line (Skipped ∷ before) said = numbered-append (line + 1) before said ∙ ap (λ n. numbered (line + 1) before ++ numbered n (said ∷ [])) (omega arith)
numbered-append line (Unreadable ∷ before) said = numbered-append (line + 1) before said ∙ ap (λ n. numbered (line + 1) before ++ numbered n (said ∷ [])) (omega arith)
numbered-append line (SelfLink ∷ before) said = numbered-append (line + 1) before said ∙ ap (λ n. numbered (line + 1) before ++ numbered n (said ∷ [])) (omega arith)

-- the first lines with one line more
pub firsts-push : (before : List Line) (said : Line) → firsts (before ++ said ∷ []) ≡ with_said (firsts before) (length before + 1) said
firsts-push before said = ap (λ (es : Entries). from_entries es) (numbered-append 1 before said) ∙ by_line said (1 + length before) (length before + 1) (omega arith)
  where
    by_line : (said : Line) (m n : ℕ) → m ≡ n → from_entries {R = pair_cmp} (numbered 1 before ++ numbered m (said ∷ [])) ≡ with_said (firsts before) n said
    by_line (Link lo hi rel) m n e = rw e (push (numbered 1 before) (lo, hi) (record { rel = rel; line = n }))
    by_line Skipped m n e = ap (λ (es : Entries). from_entries es) (append-nil (numbered 1 before))
    by_line Unreadable m n e = ap (λ (es : Entries). from_entries es) (append-nil (numbered 1 before))
    by_line SelfLink m n e = ap (λ (es : Entries). from_entries es) (append-nil (numbered 1 before))

-- the links that lines give, each under its pair
abbrev pub links_given : List Line → List ((ℕ × ℕ) × Rel)
links_given [] = []
links_given (Link lo hi rel ∷ more) = ((lo, hi), rel) ∷ links_given more
links_given (said ∷ more) = links_given more

links-numbered : (line : ℕ) (said : List Line) → map link_at (numbered line said) ≡ links_given said
links-numbered line [] = refl
links-numbered line (Link lo hi rel ∷ more) = ap (λ es. ((lo, hi), rel) ∷ es) (links-numbered (line + 1) more)
links-numbered line (Skipped ∷ more) = links-numbered (line + 1) more
links-numbered line (Unreadable ∷ more) = links-numbered (line + 1) more
links-numbered line (SelfLink ∷ more) = links-numbered (line + 1) more

pub links_in-given : (said : List Line) → links_in said ≡ from_entries (links_given said)
links_in-given said = ap from_entries (links-numbered 1 said)

-- the links of the first lines are those that the lines give
pub relations-firsts : (said : List Line) → relations (firsts said) ≡ links_in said
relations-firsts said = sym (relations-from_entries (numbered 1 said))

-- the first fault of lines behind others
abbrev pub first_fault : List Line → List Line → Option RelError
first_fault = steps.first_fault fault_after

unless-option_or : (f g : Option RelError) (value : Result LinkMap RelError) → unless f (unless g value) ≡ unless (option_or f g) value
unless-option_or None g value = refl
unless-option_or (Some e) g value = refl

-- lines judged one after the other, behind others
pub value_from-firsts : (before more : List Line) → value_from (firsts before) (length before + 1) more ≡ unless (first_fault before more) (Ok (links_in (before ++ more)))
value_from-firsts before [] = ap (λ links. Ok links) (relations-firsts before ∙ ap links_in (sym (append-nil before)))
value_from-firsts before (said ∷ more) =
    let n : length before + 1 ≡ length (before ++ said ∷ []) = sym (length-append before (said ∷ [])) in
    ap (unless (fault_after before said))
    (ap (λ table. value_from table (length before + 1 + 1) more) (sym (firsts-push before said))
    ∙ ap (λ line. value_from (firsts (before ++ said ∷ [])) (line + 1) more) n
    ∙ value_from-firsts (before ++ said ∷ []) more
    ∙ ap (λ all. unless (first_fault (before ++ said ∷ []) more) (Ok (links_in all))) (append_assoc before (said ∷ []) more))
    ∙ unless-option_or (fault_after before said) (first_fault (before ++ said ∷ []) more) (Ok (links_in (before ++ said ∷ more)))

pub value_of_all : (said : List Line) → value_from (firsts []) 1 said ≡ value_of said
value_of_all said = value_from-firsts [] said
