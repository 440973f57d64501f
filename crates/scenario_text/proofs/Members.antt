-- A document that is read at once, and in two passes: first all types, and then all values.
use Rattle.std.proofs.Common.{◌≡◌, ℕ, suc, ◌∷◌, [], List, map, Bool, true, false, Option, Some, None, Result, Ok, Err, refl, ◌∙◌, ap, nat_eq}
use Rattle.std.specs.Prelude.{if◌then◌else◌, ok_or, option_map, unwrap_or}
use Rattle.std.specs.List.{starts_with}
use Rattle.std.specs.Option.{option_transpose}
use Rattle.serde_json.specs.Data.{Data, Items, no_items, item as json_item}
use Rattle.serde_json.specs.Find.{get, as_array}
use Rattle.net_names.specs.Addresses.{AddrValue}
use Rattle.net_names.specs.Prefixes.{PrefixValue}
use Rattle.net_names.specs.Texts.{prefix_of, addr_of}
use Rattle.policy_kinds.specs.Names.{kind_named}
use Rattle.policy_kinds.specs.declared.kind.Kind.{Kind}
use Rattle.scenario_text.specs.declared.documents.AnnouncementText.{AnnouncementText}
use Rattle.scenario_text.specs.declared.documents.PolicyText.{PolicyText}
use Rattle.scenario_text.specs.declared.faults.ScenarioError.{ScenarioError}
use Rattle.scenario_text.specs.declared.faults.ScenarioError.TheVariants.{Shape, Value}
use Rattle.scenario_text.specs.declared.places.Member.TheVariants.{Announcements, Policies, Leaks, Watch}
use Rattle.scenario_text.specs.declared.places.PartOf.TheVariants as parts
use Rattle.scenario_text.specs.declared.places.Place.{Place}
use Rattle.scenario_text.specs.declared.scenario.Announcement.{Announcement}
use Rattle.scenario_text.specs.Members.{◌⊛◌, object, text, asn, items_from, list, needed, optional, announcement, policy, lists_in}
use Rattle.scenario_text.specs.Places.{in_member, in_part, item, name_at, part_name}
use Rattle.scenario_text.specs.Scenarios.{ScenarioValue}
use Rattle.scenario_text.specs.Shapes.{text_at, number_at, item_list, list_at, optional_or, announcement_at, policy_at, document_of}
use Rattle.scenario_text.specs.Values.{asn_at, announcement_of, policy_of, lists_of}
use Rattle.scenario_text.specs.Walks.{◌>>=◌, Reader, each_from, each_at}

-- a reading whose faults, told by their places, are all of one kind
abbrev of_kind : {X : Type 0} → (Place → ScenarioError) → Result X Place → Result X ScenarioError
of_kind kind (Ok x) = Ok x
of_kind kind (Err p) = Err (kind p)

abbrev Of : {X : Type 0} → (Place → ScenarioError) → Result X ScenarioError → Type 0
Of {X = X} kind reading = (plain : Result X Place) × (reading ≡ of_kind kind plain)

of_ok : {X : Type 0} (kind : Place → ScenarioError) (x : X) → Of kind (Ok x)
of_ok kind x = (Ok x, refl)

of_option : {X : Type 0} (kind : Place → ScenarioError) (o : Option X) (p : Place) → Of kind (ok_or o (kind p))
of_option kind (Some x) p = (Ok x, refl)
of_option kind None p = (Err p, refl)

of_test : {X : Type 0} (kind : Place → ScenarioError) (test : Bool) (x : X) (p : Place) → Of kind (if test then Ok x else Err (kind p))
of_test kind true x p = (Ok x, refl)
of_test kind false x p = (Err p, refl)

steps_of : {X Y : Type 0} (kind : Place → ScenarioError) (r : Result X Place) (k : X → Result Y ScenarioError) → ((x : X) → Of kind (k x)) → Of kind (of_kind kind r >>= k)
steps_of kind (Ok x) k h = h x
steps_of kind (Err p) k h = (Err p, refl)

of_steps : {X Y : Type 0} (kind : Place → ScenarioError) (r : Result X ScenarioError) (k : X → Result Y ScenarioError) → Of kind r → ((x : X) → Of kind (k x)) → Of kind (r >>= k)
of_steps kind r k hr hk = rw hr.1 (steps_of kind hr.0 k hk)

of_each : {X Y : Type 0} (kind : Place → ScenarioError) (f : ℕ → X → Result Y ScenarioError) → ((i : ℕ) (x : X) → Of kind (f i x)) → (i : ℕ) (xs : List X) → Of kind (each_from f i xs)
unfolding each_from
of_each kind f h i [] = of_ok kind []
of_each kind f h i (x ∷ xs) = of_steps kind _ _ (h i x) (λ y. of_steps kind _ _ (of_each kind f h (suc i) xs) (λ ys. of_ok kind (y ∷ ys)))

-- a wrong type comes before bad values
late : {A B : Type 0} (f : Result (A → B) Place) (q : Place) → (of_kind Value f ⊛ Err (Shape q)) ≡ Err (Shape q)
late (Ok g) q = refl
late (Err p) q = refl

values_both : {A B : Type 0} (f : Result (A → B) Place) (x : Result A Place) → (of_kind Value f ⊛ of_kind Value x) ≡ of_kind Value (f >>= λ g. x >>= λ y. Ok (g y))
values_both (Ok g) (Ok y) = refl
values_both (Ok g) (Err q) = refl
values_both (Err p) (Ok y) = refl
values_both (Err p) (Err q) = refl

of_both : {A B : Type 0} (f : Result (A → B) ScenarioError) (x : Result A ScenarioError) → Of Value f → Of Value x → Of Value (f ⊛ x)
of_both f x hf hx = (hf.0 >>= λ g. hx.0 >>= λ y. Ok (g y), rw (hf.1, hx.1) (values_both hf.0 hx.0))

-- the reading of the whole is that of the types and then that of the values
record ReadsInPasses {T B : Type 0} (read : Reader Data B) (types : Reader Data T) (values : Reader T B) : Type 0 where
  same : (p : Place) (d : Data) → read p d ≡ (types p d >>= values p)
  of_types : (p : Place) (d : Data) → Of Shape (types p d)
  of_values : (p : Place) (t : T) → Of Value (values p t)

next_of : {A B C T U : Type 0} (f : Result (A → B) Place) (s : Result T Place) (v : T → Result A ScenarioError) (rest : Result B ScenarioError → Result C ScenarioError)
    (k : T → Result U ScenarioError) (V : U → Result C ScenarioError) → ((q : Place) → rest (Err (Shape q)) ≡ Err (Shape q)) → ((t : T) → rest (of_kind Value f ⊛ v t) ≡ (k t >>= V))
    → rest (of_kind Value f ⊛ (of_kind Shape s >>= v)) ≡ ((of_kind Shape s >>= k) >>= V)
next_of f (Ok t) v rest k V strict h = h t
next_of f (Err q) v rest k V strict h = rw (late f q) (strict q)

-- behind values that are read, the types of the next part come before all values
next : {A B C T U : Type 0} (f : Result (A → B) ScenarioError) (x : Result A ScenarioError) (s : Result T ScenarioError) (v : T → Result A ScenarioError) (rest : Result B ScenarioError → Result C ScenarioError)
    (k : T → Result U ScenarioError) (V : U → Result C ScenarioError) → Of Value f → x ≡ (s >>= v) → Of Shape s → ((q : Place) → rest (Err (Shape q)) ≡ Err (Shape q)) → ((t : T) → rest (f ⊛ v t) ≡ (k t >>= V))
    → rest (f ⊛ x) ≡ ((s >>= k) >>= V)
next f x s v rest k V hf same hs strict goal = rw (same, hs.1, hf.1) (next_of hf.0 hs.0 v rest k V strict (λ t. rw (← hf.1) (goal t)))

next_part : {A B C T U : Type 0} {read : Reader Data A} {types : Reader Data T} {values : Reader T A} → ReadsInPasses read types values → (p : Place) (d : Data) (f : Result (A → B) ScenarioError)
    (rest : Result B ScenarioError → Result C ScenarioError) (k : T → Result U ScenarioError) (V : U → Result C ScenarioError) → Of Value f → ((q : Place) → rest (Err (Shape q)) ≡ Err (Shape q))
    → ((t : T) → rest (f ⊛ values p t) ≡ (k t >>= V)) → rest (f ⊛ read p d) ≡ ((types p d >>= k) >>= V)
next_part {read = read} {types = types} {values = values} h p d f rest k V hf strict goal = next f (read p d) (types p d) (values p) rest k V hf (h.same p d) (h.of_types p d) strict goal

after : {T B : Type 0} (o : Result (Unit {0}) ScenarioError) (whole : Result B ScenarioError) (s : Result T ScenarioError) (V : T → Result B ScenarioError) → whole ≡ (s >>= V) → (o >>= λ _. whole) ≡ ((o >>= λ _. s) >>= V)
after (Ok u) whole s V h = h
after (Err e) whole s V h = refl

err_first : {A B : Type 0} (p : Place) (x : Result A Place) → ◌⊛◌ {A = A} {B = B} (Err (Value p)) (of_kind Value x) ≡ Err (Value p)
err_first p (Ok y) = refl
err_first p (Err q) = refl

two_values : {A B C : Type 0} (mk : A → B → C) (x : Result A Place) (y : Result B Place) → (Ok mk ⊛ of_kind Value x ⊛ of_kind Value y) ≡ (of_kind Value x >>= λ a. of_kind Value y >>= λ b. Ok (mk a b))
two_values mk (Ok a) y = refl
two_values mk (Err p) y = err_first p y

two_read : {A B C : Type 0} (mk : A → B → C) (x : Result A ScenarioError) (y : Result B ScenarioError) → Of Value x → Of Value y → (Ok mk ⊛ x ⊛ y) ≡ (x >>= λ a. y >>= λ b. Ok (mk a b))
two_read mk x y hx hy = rw (hx.1, hy.1) (two_values mk hx.0 hy.0)

-- texts and numbers
text_passes : {B : Type 0} (grammar : List ℕ → Option B) → ReadsInPasses (text grammar) text_at (λ p t. ok_or (grammar t) (Value p))
text_passes grammar = record { same = λ p d. refl; of_types = λ p d. of_option Shape _ p; of_values = λ p t. of_option Value (grammar t) p }

asn_passes : ReadsInPasses asn number_at asn_at
asn_passes = record { same = λ p d. refl; of_types = λ p d. of_option Shape _ p; of_values = λ p n. of_test Value _ n p }

-- lists
items_same : {T B : Type 0} (read : Reader Data B) (types : Reader Data T) (values : Reader T B) → ReadsInPasses read types values → (p : Place) (i : ℕ) (ds : Items)
    → items_from i read p ds ≡ (each_from (λ j. types (item p j)) i (item_list ds) >>= each_from (λ j. values (item p j)) i)
unfolding each_from
items_same read types values h p i no_items = refl
items_same {T = T} {B = B} read types values h p i (json_item d ds) =
    let more : Result (List T) ScenarioError = each_from (λ j. types (item p j)) (suc i) (item_list ds) in
    next (Ok ◌∷◌) (read (item p i) d) (types (item p i) d) (values (item p i)) (λ z. z ⊛ items_from (suc i) read p ds) (λ t. more >>= λ ts. Ok (t ∷ ts)) (each_from (λ j. values (item p j)) i)
    (of_ok Value ◌∷◌) (h.same (item p i) d) (h.of_types (item p i) d) (λ q. refl)
    (λ t. next (Ok ◌∷◌ ⊛ values (item p i) t) (items_from (suc i) read p ds) more (each_from (λ j. values (item p j)) (suc i)) (λ z. z) (λ ts. Ok (t ∷ ts)) (each_from (λ j. values (item p j)) i)
    (of_both (Ok ◌∷◌) (values (item p i) t) (of_ok Value ◌∷◌) (h.of_values (item p i) t)) (items_same read types values h p (suc i) ds) (of_each Shape _ (λ j. h.of_types (item p j)) (suc i) (item_list ds)) (λ q. refl)
    (λ ts. two_read ◌∷◌ (values (item p i) t) (each_from (λ j. values (item p j)) (suc i) ts) (h.of_values (item p i) t) (of_each Value _ (λ j. h.of_values (item p j)) (suc i) ts)))

list_same : {T B : Type 0} (read : Reader Data B) (types : Reader Data T) (values : Reader T B) → ReadsInPasses read types values → (p : Place) (o : Option Items)
    → (ok_or o (Shape p) >>= items_from 0 read p) ≡ ((ok_or (option_map item_list o) (Shape p) >>= each_at types p) >>= each_at values p)
list_same read types values h p (Some ds) = items_same read types values h p 0 ds
list_same read types values h p None = refl

list_passes : {T B : Type 0} (read : Reader Data B) (types : Reader Data T) (values : Reader T B) → ReadsInPasses read types values → ReadsInPasses (list read) (list_at types) (each_at values)
list_passes read types values h = record {
  same = λ p d. list_same read types values h p (as_array d);
  of_types = λ p d. of_steps Shape _ _ (of_option Shape (option_map item_list (as_array d)) p) (λ ds. of_each Shape _ (λ j. h.of_types (item p j)) 0 ds);
  of_values = λ p ts. of_each Value _ (λ j. h.of_values (item p j)) 0 ts;
}

-- members
needed_same : {T B : Type 0} (read : Reader Data B) (types : Reader Data T) (values : Reader T B) → ReadsInPasses read types values → (p : Place) (o : Option Data)
    → (ok_or o (Shape p) >>= read p) ≡ ((ok_or o (Shape p) >>= types p) >>= values p)
needed_same read types values h p (Some d) = h.same p d
needed_same read types values h p None = refl

needed_passes : {T B : Type 0} (read : Reader Data B) (types : Reader Data T) (values : Reader T B) → ReadsInPasses read types values → ReadsInPasses (needed read) (needed types) values
needed_passes read types values h = record {
  same = λ p d. needed_same read types values h p (get (name_at p) d);
  of_types = λ p d. of_steps Shape _ _ (of_option Shape (get (name_at p) d) p) (h.of_types p);
  of_values = h.of_values;
}

prefix_member : ReadsInPasses (needed (text prefix_of)) (needed text_at) (λ p t. ok_or (prefix_of t) (Value p))
prefix_member = needed_passes (text prefix_of) text_at _ (text_passes prefix_of)

kind_member : ReadsInPasses (needed (text kind_named)) (needed text_at) (λ p t. ok_or (kind_named t) (Value p))
kind_member = needed_passes (text kind_named) text_at _ (text_passes kind_named)

number_member : ReadsInPasses (needed asn) (needed number_at) asn_at
number_member = needed_passes asn number_at asn_at asn_passes

numbers_pass : ReadsInPasses (list asn) (list_at number_at) (each_at asn_at)
numbers_pass = list_passes asn number_at asn_at asn_passes

transposed : {A : Type 0} (r : Result A ScenarioError) → option_transpose (Some r) ≡ (r >>= λ y. Ok (Some y))
transposed (Ok y) = refl
transposed (Err e) = refl

steps_twice : {A B C : Type 0} (r : Result A ScenarioError) (v : A → Result B ScenarioError) (g : B → Result C ScenarioError) → ((r >>= v) >>= g) ≡ (r >>= λ t. v t >>= g)
steps_twice (Ok t) v g = refl
steps_twice (Err e) v g = refl

unwrapped : {A : Type 0} (r : Result A ScenarioError) (d : A) → ((r >>= λ y. Ok (Some y)) >>= λ o. Ok (unwrap_or o d)) ≡ r
unwrapped (Ok y) d = refl
unwrapped (Err e) d = refl

next_optional : {A B C T U : Type 0} {read : Reader Data A} {types : Reader Data T} {values : Reader T A} → ReadsInPasses read types values → (p : Place) (o : Option Data) (f : Result (Option A → B) ScenarioError) (default : T)
    (rest : Result B ScenarioError → Result C ScenarioError) (k : T → Result U ScenarioError) (V : U → Result C ScenarioError) → Of Value f → ((q : Place) → rest (Err (Shape q)) ≡ Err (Shape q))
    → rest (f ⊛ Ok None) ≡ (k default >>= V) → ((t : T) → rest (f ⊛ (values p t >>= λ y. Ok (Some y))) ≡ (k t >>= V))
    → rest (f ⊛ option_transpose (option_map (read p) o)) ≡ ((elim o [ None ↦ Ok default | Some x ↦ types p x ] >>= k) >>= V)
next_optional h p None f default rest k V hf strict none some = none
next_optional {read = read} {types = types} {values = values} h p (Some d) f default rest k V hf strict none some =
    next f (option_transpose (Some (read p d))) (types p d) (λ t. values p t >>= λ y. Ok (Some y)) rest k V hf
    (transposed (read p d) ∙ ap (λ r. r >>= λ y. Ok (Some y)) (h.same p d) ∙ steps_twice (types p d) (values p) (λ y. Ok (Some y))) (h.of_types p d) strict some

-- an optional list, which is empty where it isn't there
next_list : {A B C T U : Type 0} (read : Reader Data A) (types : Reader Data T) (values : Reader T A) → ReadsInPasses read types values → (p : Place) (d : Data) (f : Result (Option (List A) → B) ScenarioError)
    (rest : Result B ScenarioError → Result C ScenarioError) (k : List T → Result U ScenarioError) (V : U → Result C ScenarioError) → Of Value f → ((q : Place) → rest (Err (Shape q)) ≡ Err (Shape q))
    → ((ts : List T) (z : Result (Option (List A)) ScenarioError) → Of Value z → (z >>= λ o. Ok (unwrap_or o [])) ≡ each_at values p ts → rest (f ⊛ z) ≡ (k ts >>= V))
    → rest (f ⊛ optional (list read) p d) ≡ ((optional_or [] (list_at types) p d >>= k) >>= V)
unfolding each_from
next_list read types values h p d f rest k V hf strict goal =
    let all = list_passes read types values h in
    next_optional all p (get (name_at p) d) f [] rest k V hf strict (goal [] (Ok None) (of_ok Value None) refl)
    (λ ts. goal ts (each_at values p ts >>= λ y. Ok (Some y)) (of_steps Value _ _ (all.of_values p ts) (λ y. of_ok Value (Some y))) (unwrapped (each_at values p ts) []))

-- announcements
abbrev announced : PrefixValue → ℕ → Option (List ℕ) → Announcement
announced prefix n path = record { prefix = prefix; asn = n; path = unwrap_or path (n ∷ []) }

-- an announcement whose path begins with its AS
abbrev own : ScenarioError → Announcement → Result Announcement ScenarioError
own e a = if starts_with nat_eq a.path (a.asn ∷ []) then Ok a else Err e

announced_with : (x : Result PrefixValue Place) (n : Result ℕ Place) (path : Result (List ℕ) Place) (e : ScenarioError)
    → ((Ok announced ⊛ of_kind Value x ⊛ of_kind Value n ⊛ (of_kind Value path >>= λ ms. Ok (Some ms))) >>= own e)
    ≡ (of_kind Value x >>= λ prefix. of_kind Value n >>= λ m. of_kind Value path >>= λ ms. own e (record { prefix = prefix; asn = m; path = ms }))
announced_with (Ok x) (Ok n) (Ok path) e = refl
announced_with (Ok x) (Ok n) (Err r) e = refl
announced_with (Ok x) (Err q) (Ok path) e = refl
announced_with (Ok x) (Err q) (Err r) e = refl
announced_with (Err p) (Ok n) (Ok path) e = refl
announced_with (Err p) (Ok n) (Err r) e = refl
announced_with (Err p) (Err q) (Ok path) e = refl
announced_with (Err p) (Err q) (Err r) e = refl

announced_alone : (x : Result PrefixValue Place) (test : Bool) (n : ℕ) (q r : Place) (e : ScenarioError)
    → ((Ok announced ⊛ of_kind Value x ⊛ (if test then Ok n else Err (Value q)) ⊛ Ok None) >>= own e)
    ≡ (of_kind Value x >>= λ prefix. (if test then Ok n else Err (Value q)) >>= λ m. ((if test then Ok n else Err (Value r)) >>= λ y. Ok (y ∷ [])) >>= λ ms. own e (record { prefix = prefix; asn = m; path = ms }))
announced_alone (Ok x) true n q r e = refl
announced_alone (Ok x) false n q r e = refl
announced_alone (Err p) true n q r e = refl
announced_alone (Err p) false n q r e = refl

read_with : (x : Result PrefixValue ScenarioError) (n : Result ℕ ScenarioError) (path : Result (List ℕ) ScenarioError) (e : ScenarioError) → Of Value x → Of Value n → Of Value path
    → ((Ok announced ⊛ x ⊛ n ⊛ (path >>= λ ms. Ok (Some ms))) >>= own e) ≡ (x >>= λ prefix. n >>= λ m. path >>= λ ms. own e (record { prefix = prefix; asn = m; path = ms }))
read_with x n path e hx hn hp = rw (hx.1, hn.1, hp.1) (announced_with hx.0 hn.0 hp.0 e)

read_alone : (x : Result PrefixValue ScenarioError) (test : Bool) (n : ℕ) (q r : Place) (e : ScenarioError) → Of Value x
    → ((Ok announced ⊛ x ⊛ (if test then Ok n else Err (Value q)) ⊛ Ok None) >>= own e)
    ≡ (x >>= λ prefix. (if test then Ok n else Err (Value q)) >>= λ m. ((if test then Ok n else Err (Value r)) >>= λ y. Ok (y ∷ [])) >>= λ ms. own e (record { prefix = prefix; asn = m; path = ms }))
read_alone x test n q r e hx = rw hx.1 (announced_alone hx.0 test n q r e)

announcement_same : (p : Place) (d : Data) → announcement p d ≡ (announcement_at p d >>= announcement_of p)
unfolding announcement announcement_at announcement_of each_from
announcement_same p d =
    let at_prefix = in_part p parts.Prefix in
    let at_number = in_part p parts.Number in
    let at_path = in_part p parts.Path in
    let number = needed asn at_number d in
    let path = optional (list asn) at_path d in
    let e = Value at_path in
    after _ _ _ (announcement_of p)
    (next_part prefix_member at_prefix d (Ok announced) (λ z. (z ⊛ number ⊛ path) >>= own e) _ (announcement_of p) (of_ok Value announced) (λ q. refl)
    (λ t. let x = ok_or (prefix_of t) (Value at_prefix) in let hx = of_option Value (prefix_of t) at_prefix in let f = of_both (Ok announced) x (of_ok Value announced) hx in
    next_part number_member at_number d (Ok announced ⊛ x) (λ z. (z ⊛ path) >>= own e) _ (announcement_of p) f (λ q. refl)
    (λ n. let hn = of_test Value _ n at_number in
    next_optional numbers_pass at_path (get (name_at at_path) d) (Ok announced ⊛ x ⊛ asn_at at_number n) (n ∷ []) (λ z. z >>= own e) _ (announcement_of p) (of_both (Ok announced ⊛ x) (asn_at at_number n) f hn) (λ q. refl)
    (read_alone x _ n at_number (item at_path 0) e hx)
    (λ ns. read_with x (asn_at at_number n) (each_at asn_at at_path ns) e hx hn (numbers_pass.of_values at_path ns)))))

of_object : (names : List (List ℕ)) (p : Place) (d : Data) → Of Shape (object names p d)
of_object names p d = of_test Shape _ tt p

of_optional : {T : Type 0} (default : T) (types : Data → Result T ScenarioError) → ((x : Data) → Of Shape (types x)) → (o : Option Data) → Of Shape (elim o [ None ↦ Ok default | Some x ↦ types x ])
of_optional default types h (Some x) = h x
of_optional default types h None = of_ok Shape default

announcement_types : (p : Place) (d : Data) → Of Shape (announcement_at p d)
unfolding announcement_at
announcement_types p d =
    of_steps Shape _ _ (of_object (map part_name (parts.Prefix ∷ parts.Number ∷ parts.Path ∷ [])) p d)
    (λ _. of_steps Shape _ _ (prefix_member.of_types (in_part p parts.Prefix) d)
    (λ prefix. of_steps Shape _ _ (number_member.of_types (in_part p parts.Number) d)
    (λ number. of_steps Shape _ _ (of_optional (number ∷ []) (list_at number_at (in_part p parts.Path)) (numbers_pass.of_types (in_part p parts.Path)) _)
    (λ path. of_ok Shape (record { prefix = prefix; number = number; path = path })))))

announcement_values : (p : Place) (a : AnnouncementText) → Of Value (announcement_of p a)
unfolding announcement_of
announcement_values p a =
    of_steps Value _ _ (of_option Value (prefix_of a.prefix) (in_part p parts.Prefix))
    (λ prefix. of_steps Value _ _ (asn_passes.of_values (in_part p parts.Number) a.number)
    (λ n. of_steps Value _ _ (numbers_pass.of_values (in_part p parts.Path) a.path)
    (λ path. of_test Value (starts_with nat_eq path (n ∷ [])) (record { prefix = prefix; asn = n; path = path }) (in_part p parts.Path))))

announcement_passes : ReadsInPasses announcement announcement_at announcement_of
announcement_passes = record { same = announcement_same; of_types = announcement_types; of_values = announcement_values }

-- policies
policy_same : (p : Place) (d : Data) → policy p d ≡ (policy_at p d >>= policy_of p)
unfolding policy policy_at policy_of
policy_same p d =
    let at_number = in_part p parts.Number in
    let at_policy = in_part p parts.Policy in
    let pair : ℕ → Kind → ℕ × Kind = λ n kind. (n, kind) in
    after _ _ _ (policy_of p)
    (next_part number_member at_number d (Ok pair) (λ z. z ⊛ needed (text kind_named) at_policy d) _ (policy_of p) (of_ok Value pair) (λ q. refl)
    (λ n. let hn = asn_passes.of_values at_number n in
    next_part kind_member at_policy d (Ok pair ⊛ asn_at at_number n) (λ z. z) _ (policy_of p) (of_both (Ok pair) (asn_at at_number n) (of_ok Value pair) hn) (λ q. refl)
    (λ t. two_read pair (asn_at at_number n) (ok_or (kind_named t) (Value at_policy)) hn (of_option Value (kind_named t) at_policy))))

policy_types : (p : Place) (d : Data) → Of Shape (policy_at p d)
unfolding policy_at
policy_types p d =
    of_steps Shape _ _ (of_object (map part_name (parts.Number ∷ parts.Policy ∷ [])) p d)
    (λ _. of_steps Shape _ _ (number_member.of_types (in_part p parts.Number) d)
    (λ number. of_steps Shape _ _ (kind_member.of_types (in_part p parts.Policy) d)
    (λ policy. of_ok Shape (record { number = number; policy = policy }))))

policy_values : (p : Place) (x : PolicyText) → Of Value (policy_of p x)
unfolding policy_of
policy_values p x =
    of_steps Value _ _ (asn_passes.of_values (in_part p parts.Number) x.number)
    (λ n. of_steps Value _ _ (of_option Value (kind_named x.policy) (in_part p parts.Policy)) (λ kind. of_ok Value (n, kind)))

policy_passes : ReadsInPasses policy policy_at policy_of
policy_passes = record { same = policy_same; of_types = policy_types; of_values = policy_values }

-- the document
abbrev Maybe : Type 0 → Type 0
Maybe A = Result (Option (List A)) Place

abbrev or_empty : {A : Type 0} → Result (Option (List A)) ScenarioError → Result (List A) ScenarioError
or_empty z = z >>= λ o. Ok (unwrap_or o [])

abbrev scenario : List Announcement → Option (List (ℕ × Kind)) → Option (List (List ℕ)) → Option (List AddrValue) → ScenarioValue
scenario a p l w = record { announcements = a; policies = unwrap_or p []; leaks = unwrap_or l []; watch = unwrap_or w [] }

four_values : (a : Result (List Announcement) Place) (p : Maybe (ℕ × Kind)) (l : Maybe (List ℕ)) (w : Maybe AddrValue)
    → (Ok scenario ⊛ of_kind Value a ⊛ of_kind Value p ⊛ of_kind Value l ⊛ of_kind Value w)
    ≡ (of_kind Value a >>= λ a. or_empty (of_kind Value p) >>= λ p. or_empty (of_kind Value l) >>= λ l. or_empty (of_kind Value w) >>= λ w. Ok (record { announcements = a; policies = p; leaks = l; watch = w }))
four_values (Ok a) (Ok p) (Ok l) (Ok w) = refl
four_values (Ok a) (Ok p) (Ok l) (Err q) = refl
four_values (Ok a) (Ok p) (Err q) (Ok w) = refl
four_values (Ok a) (Ok p) (Err q) (Err r) = refl
four_values (Ok a) (Err q) l w = ap (λ z. z ⊛ of_kind Value w) (err_first q l) ∙ err_first q w
four_values (Err q) p l w = ap (λ z. z ⊛ of_kind Value l ⊛ of_kind Value w) (err_first q p) ∙ ap (λ z. z ⊛ of_kind Value w) (err_first q l) ∙ err_first q w

four_read : (a : Result (List Announcement) ScenarioError) (p : Result (Option (List (ℕ × Kind))) ScenarioError) (l : Result (Option (List (List ℕ))) ScenarioError) (w : Result (Option (List AddrValue)) ScenarioError)
    (p' : Result (List (ℕ × Kind)) ScenarioError) (l' : Result (List (List ℕ)) ScenarioError) (w' : Result (List AddrValue) ScenarioError) → Of Value a → Of Value p → Of Value l → Of Value w → or_empty p ≡ p' → or_empty l ≡ l' → or_empty w ≡ w'
    → (Ok scenario ⊛ a ⊛ p ⊛ l ⊛ w) ≡ (a >>= λ a. p' >>= λ p. l' >>= λ l. w' >>= λ w. Ok (record { announcements = a; policies = p; leaks = l; watch = w }))
four_read a p l w p' l' w' ha hp hl hw ep el ew = rw (← ep, ← el, ← ew, ha.1, hp.1, hl.1, hw.1) (four_values ha.0 hp.0 hl.0 hw.0)

pub lists_in_passes : (d : Data) → lists_in d ≡ (document_of d >>= lists_of)
unfolding lists_in document_of lists_of
lists_in_passes d =
    let all = list_passes announcement announcement_at announcement_of announcement_passes in
    let policies = optional (list policy) (in_member Policies) d in
    let leaks = optional (list (list asn)) (in_member Leaks) d in
    let watch = optional (list (text addr_of)) (in_member Watch) d in
    after _ _ _ lists_of
    (next_part (needed_passes (list announcement) (list_at announcement_at) (each_at announcement_of) all) (in_member Announcements) d (Ok scenario) (λ z. z ⊛ policies ⊛ leaks ⊛ watch) _ lists_of (of_ok Value scenario) (λ q. refl)
    (λ texts. let a = each_at announcement_of (in_member Announcements) texts in let ha = all.of_values (in_member Announcements) texts in let f = of_both (Ok scenario) a (of_ok Value scenario) ha in
    next_list policy policy_at policy_of policy_passes (in_member Policies) d (Ok scenario ⊛ a) (λ z. z ⊛ leaks ⊛ watch) _ lists_of f (λ q. refl)
    (λ ps p hp ep. let g = of_both (Ok scenario ⊛ a) p f hp in
    next_list (list asn) (list_at number_at) (each_at asn_at) numbers_pass (in_member Leaks) d (Ok scenario ⊛ a ⊛ p) (λ z. z ⊛ watch) _ lists_of g (λ q. refl)
    (λ ls l hl el.
    next_list (text addr_of) text_at _ (text_passes addr_of) (in_member Watch) d (Ok scenario ⊛ a ⊛ p ⊛ l) (λ z. z) _ lists_of (of_both (Ok scenario ⊛ a ⊛ p) l g hl) (λ q. refl)
    (λ ws w hw ew. four_read a p l w _ _ _ ha hp hl hw ep el ew)))))
