use Rattle.std.proofs.Common.{◌≡◌, ℕ, List, [], ◌∷◌, ◌++◌, Option, Some, None, IfSome, ap, sym, ◌∙◌, append-nil, append_assoc, rules}
use Rattle.std.specs.List.{concat, FoldsTo}
use Rattle.std.specs.Fmt.{WritesText}
use Rattle.std.specs.Fmt.InlineText.{inline_text, IsIntact, AppendsIfIntact}
use Rattle.std.specs.declared.fmt.InlineText.{InlineText}
use Rattle.net_names.proofs.writing.put.Goals as goal

-- writes append their texts, one after another
after_calls : {n : ℕ} (s : InlineText n) (parts : List (List ℕ)) (t : InlineText n) → IsIntact s → FoldsTo AppendsIfIntact s parts t → inline_text t ≡ inline_text s ++ concat parts
after_calls s [] t intact same = ap inline_text (sym same) ∙ sym (append-nil (inline_text s))
after_calls s (x ∷ parts) t intact calls =
    let first = calls.1 intact in
    after_calls calls.0 parts t first.0 calls.2 ∙ ap (λ (l : List ℕ). l ++ concat parts) first.1 ∙ append_assoc (inline_text s) x (concat parts)

appended : {n : ℕ} (s t : InlineText n) (o : Option (List ℕ)) (old new : List ℕ) → IsIntact s → inline_text s ≡ [] → WritesText AppendsIfIntact s o t → new ≡ old ++ inline_text t → IfSome o (λ text. new ≡ old ++ text)
appended s t None old new intact empty writes e = tt
appended s t (Some text) old new intact empty writes e =
    let whole = after_calls s writes.parts t intact writes.calls ∙ ap (λ (l : List ℕ). l ++ concat writes.parts) empty ∙ writes.whole in
    e ∙ ap (λ (l : List ℕ). old ++ l) whole

pub returns-clause-ok : goal.returns-clause-ok
returns-clause-ok g c =
    let o = g.D.Display.output c.args.value in
    let writes : WritesText AppendsIfIntact c.new-text.result o c.write.new.self = search rules in
    let e : c.extend_from_slice.new.self.items ≡ c.args.out.now.items ++ inline_text c.write.new.self = search rules in
    appended c.new-text.result c.write.new.self o c.args.out.now.items c.extend_from_slice.new.self.items c.new-text.ensures.intact c.new-text.ensures.text writes e
