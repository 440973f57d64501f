-- Lists to whose end something is put.
use Rattle.std.proofs.Common.{◌≡◌, ℕ, ◌+◌, ◌<◌, Bool, List, [], ◌∷◌, ◌++◌, length, take, get_or, refl, sym, ap, ◌∙◌, subst, arith, string_bytes}
use Rattle.std.proofs.lemmas.List.{take_more, flat_map_more, length-take-le}
use Rattle.std.specs.List.{AllZip, flat_map, zip}
use Rattle.io_edge.specs.Files.{NamedFile}
use Rattle.cases.specs.Reports.{failed_text}
use Rattle.cases.specs.Runs.{files_from}
use Rattle.cases.specs.declared.case.Case.{Case}
use Rattle.cases.specs.declared.case.CaseFile.{CaseFile}

-- with one more item each that are related
pub all_zip-push : {A B : Type 0} (R : A → B → Type 0) (xs : List A) (ys : List B) (x : A) (y : B) → AllZip R xs ys → R x y → AllZip R (xs ++ x ∷ []) (ys ++ y ∷ [])
all_zip-push R [] [] x y all one = (one, tt)
all_zip-push R [] (z ∷ ys) x y all one = absurd all
all_zip-push R (z ∷ xs) [] x y all one = absurd all
all_zip-push R (z ∷ xs) (w ∷ ys) x y all one = (all.0, all_zip-push R xs ys x y all.1 one)

-- with one more file that is put in front
pub files_from-push : (held : List NamedFile) (files : List CaseFile) (file : CaseFile) → files_from held (files ++ file ∷ []) ≡ record { name = string_bytes file.name; bytes = file.bytes.items } ∷ files_from held files
files_from-push held [] file = refl
files_from-push held (f ∷ files) file = files_from-push (record { name = string_bytes f.name; bytes = f.bytes.items } ∷ held) files file

-- one more pair at the end
zip-push : {A B : Type 0} (xs : List A) (ys : List B) (x : A) (y : B) → length ys ≡ length xs → zip (xs ++ x ∷ []) (ys ++ y ∷ []) ≡ zip xs ys ++ (x, y) ∷ []
zip-push [] [] x y e = refl
zip-push [] (z ∷ ys) x y e = absurd (omega (arith, e))
zip-push (z ∷ xs) [] x y e = absurd (omega (arith, e))
zip-push (z ∷ xs) (w ∷ ys) x y e = ap (λ l. (z, w) ∷ l) (zip-push xs ys x y (omega (arith, e)))

-- one more item is related
pub more_zipped : {A B : Type 0} (R : A → B → Type 0) (xs : List A) (ys new : List B) (i : ℕ) (d : A) (y : B) → i < length xs → new ≡ ys ++ y ∷ [] → AllZip R (take i xs) ys → R (get_or xs i d) y → AllZip R (take (i + 1) xs) new
more_zipped R xs ys new i d y less made all one =
    subst (λ l. AllZip R l new) (sym (take_more xs i d less))
    (subst (λ l. AllZip R (take i xs ++ get_or xs i d ∷ []) l) (sym made) (all_zip-push R (take i xs) ys (get_or xs i d) y all one))

-- one more file is held
pub more_held : (held : List NamedFile) (files : List CaseFile) (i : ℕ) (file : CaseFile) → i < length files → file ≡ get_or files i file → record { name = string_bytes file.name; bytes = file.bytes.items } ∷ files_from held (take i files) ≡ files_from held (take (i + 1) files)
more_held held files i file less is =
    sym (ap (files_from held) (take_more files i file less ∙ ap (λ f. take i files ++ f ∷ []) (sym is)) ∙ files_from-push held (take i files) file)

-- one more case is told
pub more_told : (cases : List Case) (verdicts : List Bool) (i : ℕ) (c : Case) (d : Bool) (out mid new : List ℕ) → i < length cases → length verdicts ≡ length cases → c ≡ get_or cases i c
    → mid ≡ out ++ flat_map failed_text (zip (take i cases) (take i verdicts)) → new ≡ mid ++ failed_text (c, get_or verdicts i d)
    → new ≡ out ++ flat_map failed_text (zip (take (i + 1) cases) (take (i + 1) verdicts))
more_told cases verdicts i c d out mid new less same is told more =
    let v = get_or verdicts i d in
    let within : i < length verdicts = omega (arith, less, same) in
    let longer : length (take i verdicts) ≡ length (take i cases) = length-take-le i verdicts (omega (arith, within)) ∙ sym (length-take-le i cases (omega (arith, less))) in
    let pairs : zip (take (i + 1) cases) (take (i + 1) verdicts) ≡ zip (take i cases) (take i verdicts) ++ (c, v) ∷ [] =
    (λ j. zip ((take_more cases i c less ∙ ap (λ f. take i cases ++ f ∷ []) (sym is)) j) (take_more verdicts i d within j))
    ∙ zip-push (take i cases) (take i verdicts) c v longer in
    more ∙ ap (λ l. l ++ failed_text (c, v)) told ∙ flat_map_more failed_text out (zip (take i cases) (take i verdicts)) (c, v) ∙ ap (λ l. out ++ flat_map failed_text l) (sym pairs)
