-- Going through the items and the members of a JSON value.
use Rattle.std.proofs.Common.{◌≡◌, ◌≤◌, ℕ, List, [], ◌∷◌, ◌++◌, ◌&&◌, Bool, true, false, Bor, map, Result, Ok, Err, Option, Some, None, length, refl, sym, ap, ◌∙◌, subst, arith}
use Rattle.std.specs.Prelude.{◌||◌, bytes_eq, ok_or, option_map}
use Rattle.std.specs.List.{list_any}
use Rattle.std.specs.Option.{option_map_or}
use Rattle.json.specs.Token.{Token}
use Rattle.json.specs.Json as json
use Rattle.json.specs.Json.{Json}
use Rattle.json.specs.Find.{InItems, InMembers, NextItem, NextMember}
use Rattle.json.specs.Find as find
use Rattle.json.specs.Tree.{depth, items_depth}
use Rattle.json.proofs.Found.{Some_inj}
use Rattle.serde_json.specs.Data.{Data, array, object, Items, no_items, Members}
use Rattle.serde_json.specs.Find.{as_array, as_object}
use Rattle.serde_json.specs.Read.{of_json, of_items}
use Rattle.scenario_text.specs.declared.places.Place.{Place}
use Rattle.scenario_text.specs.declared.faults.ScenarioError.{ScenarioError}
use Rattle.scenario_text.specs.declared.faults.ScenarioError.TheVariants.{Shape}
use Rattle.scenario_text.specs.Faults.{Fails}
use Rattle.scenario_text.specs.Members.{all_in}
use Rattle.scenario_text.specs.Places.{item}
use Rattle.scenario_text.specs.Shapes.{item_list, list_at}
use Rattle.scenario_text.specs.Tokens.{data_at, IsData}
use Rattle.scenario_text.specs.Walks.{◌>>=◌, Reader, each_from, each_at}
use Rattle.scenario_text.proofs.Faulty.{next_item_fails}
use Rattle.scenario_text.proofs.JsonData.{same, first_item, known_in, all_in-same, no_array, no_object}
use Rattle.scenario_text.proofs.Tokens.{Begins, data_at-begins, is_data-begins}
use Rattle.scenario_text.proofs.Walking.{with_front, with_front-nil, next_read, none_left}

-- ---- items

module _ {B : Type 0} (read : Reader Data B) (p : Place) (whole : List Token) where
  -- the readings of the items that are left, behind what was read of those before them
  abbrev pub going_on : List B → List Data → Result (List B) ScenarioError
  going_on front ds = with_front front (each_from (λ i. read (item p i)) (length front) ds)

  -- these tokens go on with the items that are left: with them the list is read as the whole says
  pub record Left (ts : List Token) (front : List B) : Type 0 where
    pub js : json.Items
    pub ds : Items
    pub stand : InItems ts js
    pub low : items_depth js ≤ 127
    pub are : of_items js ≡ Some ds
    pub so_far : going_on front (item_list ds) ≡ list_at read p (data_at whole)

  -- the same, where the next item stands at other tokens
  pub record Following (e ts : List Token) (front : List B) : Type 0 where
    pub is_data : IsData e
    pub js : json.Items
    pub ds : Items
    pub stand : InItems ts js
    pub low : items_depth js ≤ 127
    pub are : of_items js ≡ Some ds
    pub so_far : going_on front (data_at e ∷ item_list ds) ≡ list_at read p (data_at whole)

  pub all_left : (j : Json) (js : json.Items) (ts : List Token) → Begins whole j (data_at whole) → j ≡ json.array js → InItems ts js → Left ts []
  all_left j js ts b e stand =
      let h = same (json.array js) (data_at whole) (ap of_json (sym e) ∙ b.is) in
      let nothing_yet : going_on [] (item_list h.0) ≡ list_at read p (array h.0) = with_front-nil (each_from (λ i. read (item p i)) 0 (item_list h.0)) in
      let deep = subst (λ (i : Json). depth i ≤ 127) e b.low in
      record { js = js; ds = h.0; stand = stand; low = omega (arith, deep); are = h.1; so_far = nothing_yet ∙ ap (list_at read p) h.2 }

  pub not_a_list : (j : Json) → Begins whole j (data_at whole) → find.as_array j ≡ None → list_at read p (data_at whole) ≡ Err (Shape p)
  not_a_list j b none =
      let no = no_array j (data_at whole) (same j (data_at whole) b.is) none in
      ap (λ (o : Option Items). ok_or (option_map item_list o) (Shape p) >>= each_at read p) no

  pub following : (e ts new : List Token) (front : List B) → Left ts front → NextItem ts (Some e) new → Following e new front
  following e ts new front l next =
      let f = next l.js l.stand in
      let g = first_item f.0 f.1 l.ds (ap of_items (sym f.2) ∙ l.are) in
      let deep = subst (λ (i : json.Items). items_depth i ≤ 127) f.2 l.low in
      let b : Begins e f.0 g.0 = record { begins = f.3; low = omega (arith, deep); is = g.2 } in
      let here : data_at e ∷ item_list g.1 ≡ item_list l.ds = ap (λ (d : Data). d ∷ item_list g.1) (data_at-begins e f.0 g.0 b) ∙ ap item_list g.4 in
      record {
        is_data = is_data-begins e f.0 g.0 b;
        js = f.1;
        ds = g.1;
        stand = f.4;
        low = omega (arith, deep);
        are = g.3;
        so_far = ap (going_on front) here ∙ l.so_far;
      }

  pub one_less : (e ts : List Token) (front : List B) (y : B) → Following e ts front → read (item p (length front)) (data_at e) ≡ Ok y → Left ts (front ++ y ∷ [])
  one_less e ts front y f h =
      record {
        js = f.js;
        ds = f.ds;
        stand = f.stand;
        low = f.low;
        are = f.are;
        so_far = sym (next_read (λ i. read (item p i)) front (data_at e) (item_list f.ds) y h) ∙ f.so_far;
      }

  pub one_fails : (e ts : List Token) (front : List B) (fault : ScenarioError) → Following e ts front → Fails fault (read (item p (length front)) (data_at e)) → Fails fault (list_at read p (data_at whole))
  one_fails e ts front fault f h = subst (λ (r : Result (List B) ScenarioError). Fails fault r) f.so_far (next_item_fails (λ i. read (item p i)) front (data_at e) (item_list f.ds) fault h)

  pub none_is_left : (ts new : List Token) (front : List B) → Left ts front → NextItem ts None new → list_at read p (data_at whole) ≡ Ok front
  none_is_left ts new front l next =
      let done : no_items ≡ l.ds = Some_inj _ _ (ap of_items (sym (next l.js l.stand)) ∙ l.are) in
      sym l.so_far ∙ ap (λ (ds : Items). going_on front (item_list ds)) (sym done) ∙ none_left (λ i. read (item p i)) front

-- ---- members

pub list_any-now : (name : List ℕ) (known : List (Bor (List ℕ))) → list_any (λ k. bytes_eq name k.now) known ≡ list_any (bytes_eq name) (map (λ k. k.now) known)
list_any-now name [] = refl
list_any-now name (k ∷ ks) = ap (λ (b : Bool). bytes_eq name k.now || b) (list_any-now name ks)

module _ (known : List (Bor (List ℕ))) (whole : List Token) where
  -- the whole is an object whose members all have one of the names
  abbrev pub is_known : Bool
  is_known = option_map_or (all_in (map (λ k. k.now) known)) (as_object (data_at whole)) false

  -- these tokens go on with the members that are left: so far all have one of the names
  pub record Unseen (ts : List Token) : Type 0 where
    pub ms : json.Members
    pub stand : InMembers ts ms
    pub so_far : is_known ≡ known_in (map (λ k. k.now) known) ms

  pub all_unseen : (j : Json) (ms : json.Members) (ts : List Token) → Begins whole j (data_at whole) → j ≡ json.object ms → InMembers ts ms → Unseen ts
  all_unseen j ms ts b e stand =
      let h = same (json.object ms) (data_at whole) (ap of_json (sym e) ∙ b.is) in
      let is = ap (λ (d : Data). option_map_or (all_in (map (λ k. k.now) known)) (as_object d) false) (sym h.2) in
      record { ms = ms; stand = stand; so_far = is ∙ all_in-same (map (λ k. k.now) known) ms h.0 h.1 }

  pub not_an_object : (j : Json) → Begins whole j (data_at whole) → find.as_object j ≡ None → is_known ≡ false
  not_an_object j b none = ap (λ (o : Option Members). option_map_or (all_in (map (λ k. k.now) known)) o false) (no_object j (data_at whole) (same j (data_at whole) b.is) none)

  in_turn : (name : List ℕ) (rest : json.Members) (b : Bool) → b ≡ list_any (λ k. bytes_eq name k.now) known
      → (list_any (bytes_eq name) (map (λ k. k.now) known) && known_in (map (λ k. k.now) known) rest) ≡ (b && known_in (map (λ k. k.now) known) rest)
  in_turn name rest b h = ap (λ (x : Bool). x && known_in (map (λ k. k.now) known) rest) (sym (list_any-now name known) ∙ sym h)

  pub one_seen : (name : List ℕ) (e ts new : List Token) → Unseen ts → NextMember ts (Some (name, e)) new → true ≡ list_any (λ k. bytes_eq name k.now) known → Unseen new
  one_seen name e ts new u next h =
      let f = next u.ms u.stand in
      record { ms = f.1; stand = f.4; so_far = u.so_far ∙ ap (known_in (map (λ k. k.now) known)) f.2 ∙ in_turn name f.1 true h }

  pub one_unknown : (name : List ℕ) (e ts new : List Token) → Unseen ts → NextMember ts (Some (name, e)) new → false ≡ list_any (λ k. bytes_eq name k.now) known → is_known ≡ false
  one_unknown name e ts new u next h =
      let f = next u.ms u.stand in
      u.so_far ∙ ap (known_in (map (λ k. k.now) known)) f.2 ∙ in_turn name f.1 false h

  pub all_seen : (ts new : List Token) → Unseen ts → NextMember ts None new → is_known ≡ true
  all_seen ts new u next = u.so_far ∙ ap (known_in (map (λ k. k.now) known)) (next u.ms u.stand)
