-- The value that tokens begin with, as a tape finds it and as serde_json reads it.
use Rattle.std.proofs.Common.{◌≡◌, ℕ, ◌≤◌, List, [], ◌∷◌, ◌++◌, ◌&&◌, Bool, true, false, Option, Some, None, Result, Ok, IsSome, option_map, option_and_then, map, refl, sym, ap, ◌∙◌, subst, arith, append-nil}
use Rattle.std.specs.Prelude.{unwrap_or, is_some, ok_or, IfSome, MatchOption}
use Rattle.std.specs.List.{list_all}
use Rattle.json.specs.Token.{Token}
use Rattle.json.specs.Lex.{tokens}
use Rattle.json.specs.Json as json
use Rattle.json.specs.Json.{Json, document, value, if_last}
use Rattle.json.specs.Find as find
use Rattle.json.specs.Find.{BeginsWith, Finds}
use Rattle.json.specs.Tape.{node_token}
use Rattle.json.specs.declared.tape.Node.{Node}
use Rattle.json.specs.Tree.{json_tokens, items_tokens, members_tokens, depth}
use Rattle.json.proofs.Found.{Some_inj, not_found}
use Rattle.json.proofs.Nesting.{value-depth}
use Rattle.json.proofs.Printed.Trees.{value-json_tokens}
use Rattle.json.proofs.Unique.Spelling.{value-json_tokens_back}
use Rattle.serde_json.specs.Data.{Data, null, array, object, number, Items, item, Members, no_members, put}
use Rattle.serde_json.specs.Find.{get}
use Rattle.serde_json.specs.Read.{number_of, of_json, of_items, of_members, converted, read}
use Rattle.scenario_text.specs.Tokens.{whole, data_in, data_at, IsData, fits}
use Rattle.scenario_text.proofs.JsonData.{Same, same, Found, get-same, depth-get}

-- the tokens begin with j, which is d to serde_json
pub record Begins (ts : List Token) (j : Json) (d : Data) : Type 0 where
  pub begins : BeginsWith ts j
  pub low : depth j ≤ 127
  pub is : of_json j ≡ Some d

-- at 127 levels it is read as well
pub data_in-begins : (ts : List Token) (j : Json) (d : Data) → Begins ts j d → data_in ts ≡ Some d
unfolding data_in
data_in-begins ts j d h =
    let rest = h.begins.1 in
    let spelled : ts ≡ json_tokens j ++ rest = value-json_tokens_back h.begins.0 ts rest j h.begins.2 in
    let again : value 127 ts ≡ Some (j, rest) = ap (value 127) spelled ∙ value-json_tokens j 127 rest h.low in
    rw (again, h.is) refl

pub data_at-begins : (ts : List Token) (j : Json) (d : Data) → Begins ts j d → data_at ts ≡ d
data_at-begins ts j d h = ap (λ (o : Option Data). unwrap_or o null) (data_in-begins ts j d h)

pub is_data-begins : (ts : List Token) (j : Json) (d : Data) → Begins ts j d → IsData ts
is_data-begins ts j d h = ap (λ (o : Option Data). is_some o) (data_in-begins ts j d h)

by_data : (ts rest : List Token) (j : Json) (o : Option Data) → value 127 ts ≡ Some (j, rest) → of_json j ≡ o → is_some (option_map (λ (p : Data × List Token). p.0) (option_map (λ d. (d, rest)) o)) ≡ true → (d : Data) × Begins ts j d
by_data ts rest j None e f h = absurd (cc)
by_data ts rest j (Some d) e f h = (d, record { begins = (127, rest, e); low = value-depth 127 ts rest j e; is = f })

by_value : (ts : List Token) (o : Option (Json × List Token)) → value 127 ts ≡ o → is_some (option_map (λ p. p.0) (converted of_json o)) ≡ true → (j : Json) × (d : Data) × Begins ts j d
by_value ts None e h = absurd (cc)
by_value ts (Some p) e h = let b = by_data ts p.1 p.0 (of_json p.0) e refl h in (p.0, b.0, b.1)

pub begins : (ts : List Token) → IsData ts → (j : Json) × Begins ts j (data_at ts)
unfolding data_in
begins ts h =
    let b = by_value ts (value 127 ts) refl h in
    (b.0, subst (Begins ts b.0) (sym (data_at-begins ts b.0 b.1 b.2)) b.2)

-- what a look-up found is the member
pub found : (name : List ℕ) (r : Option (List Token)) (j : Json) (d : Data) → depth j ≤ 127 → of_json j ≡ Some d → Finds r (find.get name j)
    → (option_map data_at r ≡ get name d) × IfSome r IsData
found name r j d low is h = by_json (find.get name j) refl r h (get-same name j d (same j d is)) (depth-get name j)
  where
    by_json : (o : Option Json) → find.get name j ≡ o → (r : Option (List Token)) → Finds r o → Found o (get name d) → IfSome o (λ i. depth i ≤ depth j) → (option_map data_at r ≡ get name d) × IfSome r IsData
    by_json None e None h f level = (sym f, tt)
    by_json None e (Some ts) h f level = not_found h.0 h.1
    by_json (Some i) e None h f level = not_found i (sym h)
    by_json (Some i) e (Some ts) h f level =
        let is : i ≡ h.0 = Some_inj _ _ h.1 in
        let b : Begins ts i f.0 = record { begins = subst (BeginsWith ts) (sym is) h.2; low = omega (arith, level, low); is = f.1 } in
        (ap (λ (x : Data). Some x) (data_at-begins ts i f.0 b) ∙ sym f.2, is_data-begins ts i f.0 b)

-- all numbers of a value fit, exactly where serde_json reads it
list_all-append : (xs ys : List Token) → list_all fits (xs ++ ys) ≡ (list_all fits xs && list_all fits ys)
list_all-append [] ys = refl
list_all-append (x ∷ xs) ys = ap (λ (b : Bool). fits x && b) (list_all-append xs ys) ∙ together (fits x) (list_all fits xs) (list_all fits ys)
  where
    together : (a b c : Bool) → (a && (b && c)) ≡ ((a && b) && c)
    together true b c = refl
    together false b c = refl

is_some-map : {A B : Type 0} (f : A → B) (o : Option A) → is_some (option_map f o) ≡ is_some o
is_some-map f None = refl
is_some-map f (Some a) = refl

both : {A B : Type 0} (f : A → Option B) (b : Bool) → ((a : A) → is_some (f a) ≡ b) → (o : Option A) → is_some (option_and_then f o) ≡ (is_some o && b)
both f b h None = refl
both f b h (Some a) = h a

alone : (b : Bool) → b ≡ (b && true)
alone true = refl
alone false = refl

mutual
  json_fits : (j : Json) → is_some (of_json j) ≡ list_all fits (json_tokens j)
  json_fits json.null = refl
  json_fits (json.boolean b) = refl
  json_fits (json.number s) = is_some-map number (number_of s) ∙ alone (is_some (number_of s))
  json_fits (json.string s) = refl
  json_fits (json.array js) = is_some-map array (of_items js) ∙ items_fit js
  json_fits (json.object ms) = is_some-map object (of_members ms no_members) ∙ members_fit ms no_members

  items_fit : (js : json.Items) → is_some (of_items js) ≡ list_all fits (items_tokens js)
  items_fit json.no_items = refl
  items_fit (json.item j js) =
      both (λ d. option_map (item d) (of_items js)) (is_some (of_items js)) (λ d. is_some-map (item d) (of_items js)) (of_json j)
      ∙ rw (json_fits j, items_fit js) (sym (list_all-append (json_tokens j) (items_tokens js)))

  members_fit : (ms : json.Members) (found : Members) → is_some (of_members ms found) ≡ list_all fits (members_tokens ms)
  members_fit json.no_members found = refl
  members_fit (json.member k j ms) found =
      both (λ d. of_members ms (put k d found)) (list_all fits (members_tokens ms)) (λ d. members_fit ms (put k d found)) (of_json j)
      ∙ rw (json_fits j) (sym (list_all-append (json_tokens j) (members_tokens ms)))

list_all-map : (nodes : List Node) → list_all (λ n. fits (node_token n)) nodes ≡ list_all fits (map node_token nodes)
list_all-map [] = refl
list_all-map (n ∷ nodes) = ap (λ (b : Bool). fits (node_token n) && b) (list_all-map nodes)

-- ---- a whole text

last : (o : Option (Json × List Token)) (j : Json) → option_and_then (λ p. if_last p.0 p.1) o ≡ Some j → o ≡ Some (j, [])
last None j e = not_found j e
last (Some (i, [])) j e = ap (λ (x : Json). Some (x, [])) (Some_inj i j e)
last (Some (i, t ∷ ts)) j e = not_found j e

some_json : (text : List ℕ) (o : Option Json) → whole text ≡ o → IsSome o → (j : Json) × (whole text ≡ Some j)
some_json text None e h = absurd (cc)
some_json text (Some j) e h = (j, e)

-- a whole text, with whether its numbers fit
record Whole (text : List ℕ) (b : Bool) : Type 0 where
  j : Json
  tells : value 127 (tokens text) ≡ Some (j, [])
  reads : read text ≡ of_json j
  fit : is_some (of_json j) ≡ b

whole_text : (text : List ℕ) (nodes : List Node) (b : Bool) → IsSome (whole text) → map node_token nodes ≡ tokens text → b ≡ list_all (λ n. fits (node_token n)) nodes → Whole text b
whole_text text nodes b some are h =
    let w = some_json text (whole text) refl some in
    let tells = last (value 127 (tokens text)) w.0 w.1 in
    let spelled : tokens text ≡ json_tokens w.0 = value-json_tokens_back 127 (tokens text) [] w.0 tells ∙ append-nil (json_tokens w.0) in
    record {
      j = w.0;
      tells = tells;
      reads = ap (λ (o : Option Json). option_and_then of_json o) w.1;
      fit = json_fits w.0 ∙ ap (list_all fits) (sym (are ∙ spelled)) ∙ sym (list_all-map nodes) ∙ sym h;
    }

said : (text : List ℕ) (j : Json) (o : Option Data) → of_json j ≡ o → value 127 (tokens text) ≡ Some (j, []) → read text ≡ of_json j → is_some o ≡ true → (read text ≡ Some (data_at (tokens text))) × IsData (tokens text)
said text j None e tells reads h = absurd (cc)
said text j (Some d) e tells reads h =
    let b : Begins (tokens text) j d = record { begins = (127, [], tells); low = value-depth 127 (tokens text) [] j tells; is = e } in
    (reads ∙ e ∙ ap (λ (x : Data). Some x) (sym (data_at-begins (tokens text) j d b)), is_data-begins (tokens text) j d b)

pub text_read : (text : List ℕ) (nodes : List Node) → IsSome (whole text) → map node_token nodes ≡ tokens text → true ≡ list_all (λ n. fits (node_token n)) nodes → (read text ≡ Some (data_at (tokens text))) × IsData (tokens text)
text_read text nodes some are h = let w = whole_text text nodes true some are h in said text w.j (of_json w.j) refl w.tells w.reads w.fit

no_data : (o : Option Data) → is_some o ≡ false → o ≡ None
no_data None h = refl
no_data (Some d) h = absurd (cc)

pub text_refused : (text : List ℕ) (nodes : List Node) → IsSome (whole text) → map node_token nodes ≡ tokens text → false ≡ list_all (λ n. fits (node_token n)) nodes → read text ≡ None
text_refused text nodes some are h = let w = whole_text text nodes false some are h in w.reads ∙ no_data (of_json w.j) w.fit

-- a text that is whole is one that a tape takes, which has one level more
pub whole_document : (text : List ℕ) → IsSome (whole text) → document text ≡ None → ⊥
whole_document text some none =
    let w = some_json text (whole text) refl some in
    let tells = last (value 127 (tokens text)) w.0 w.1 in
    let spelled : tokens text ≡ json_tokens w.0 ++ [] = value-json_tokens_back 127 (tokens text) [] w.0 tells in
    let read : value 128 (tokens text) ≡ Some (w.0, []) = ap (value 128) spelled ∙ value-json_tokens w.0 128 [] (omega (arith, value-depth 127 (tokens text) [] w.0 tells)) in
    let is : document text ≡ Some w.0 = ap (λ o. option_and_then (λ (p : Json × List Token). if_last p.0 p.1) o) read in
    absurd cc
