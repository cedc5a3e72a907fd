-- What is known of a policy in which nothing is refused.
use Rattle.std.proofs.Common.{◌≡◌, ℕ, Bool, true, false, not, ◌||◌, List, [], ◌∷◌, ◌++◌, find, option_map, Option}
use Rattle.std.proofs.Common.{Some, None, Ok, Err, refl, sym, ap, ◌∙◌, append_assoc, true≢false, cond, length, ◌<◌}
use Rattle.std.proofs.Common.{nat_le, position}
use Rattle.std.specs.List.{list_any, cons_option}
use Rattle.std.specs.Str.{bytes_eq}
use Rattle.std.proofs.lemmas.Bool.{and_parts, and_right, or_parts, false_from_ne_true}
use Rattle.std.proofs.Math.Bool.{or-false}
use Rattle.std.proofs.lemmas.List.{append-nil}
use Rattle.std.proofs.lemmas.List.Quantifiers.{position-Some}
use Rattle.sm_bits.specs.Bits.{has, row}
use Rattle.std.proofs.lemmas.List.Folds.{list_any_at, list_any-append}
use Rattle.sm_ruletext.specs.declared.statement.What.{What}
use Rattle.sm_ruletext.specs.declared.statement.What.TheVariants.{Attribute, Declared, Member, Rule, Permissive}
use Rattle.sm_ruletext.specs.declared.statement.Statement.{Statement}
use Rattle.sm_types.specs.declared.TheConstants.{MOST_TYPES, MOST_ATTRIBUTES}
use Rattle.sm_types.specs.declared.symbols.Symbols.{Symbols}
use Rattle.sm_types.specs.declared.fault.TypesFault.{TypesFault}
use Rattle.sm_types.specs.declared.fault.TypesFault.TheVariants.{Twice, TooMany}
use Rattle.sm_types.specs.Names.{Name, at}
use Rattle.sm_types.specs.Declaring.{Step, nothing, declared, symbols_of, first_unknown, unless, members_known}
use Rattle.sm_types.specs.Declaring.{all_attributes, is_declared, with_declaration, with_type, with_attribute}
use Rattle.sm_types.specs.Denoting.{gives_attribute, has_attribute, declares, is_type_named, type_of, attribute_of}
use Rattle.sm_types.specs.Denoting.{types, attributes, is_named}
use Rattle.sm_types.specs.Members.{IsOf}
use Rattle.sm_values.specs.Names.{contains}
use Rattle.sm_values.specs.Reading.{◌>>=◌}
use Rattle.sm_types.specs.declared.table.Table.{Table}
use Rattle.sm_types.proofs.NameLemmas.{same_name, name_same, absent_at}

unlisted_names : (symbols : Symbols) (word : Name) → list_any (bytes_eq word) symbols.attributes ≡ false
    → (names : List Name) → all_attributes symbols names ≡ true → contains names word ≡ false
unlisted_names symbols word none [] known = refl
unlisted_names symbols word none (n ∷ names) known =
    let here : list_any (bytes_eq n) symbols.attributes ≡ true =
    (and_parts (list_any (bytes_eq n) symbols.attributes) (all_attributes symbols names) known).0 in
    let e : bytes_eq n word ≡ false = false_from_ne_true (bytes_eq n word)
    (λ t. true≢false (sym (rw (same_name n word t) at here) ∙ none)) in
    rw e (unlisted_names symbols word none names
    (and_parts (list_any (bytes_eq n) symbols.attributes) (all_attributes symbols names) known).1)

unlisted_what : (symbols : Symbols) (word t : Name) → list_any (bytes_eq word) symbols.attributes ≡ false
    → (what : What) → members_known symbols what ≡ true → gives_attribute t word what ≡ false
unlisted_what symbols word t none (Attribute n) known = refl
unlisted_what symbols word t none (Declared n names) known =
    and_right (bytes_eq n t) (contains names word) (unlisted_names symbols word none names known)
unlisted_what symbols word t none (Member n names) known =
    and_right (bytes_eq n t) (contains names word)
    (unlisted_names symbols word none names
    (and_parts (list_any (bytes_eq n) symbols.types) (all_attributes symbols names) known).1)
unlisted_what symbols word t none (Rule kind r) known = refl
unlisted_what symbols word t none (Permissive n) known = refl

unlisted_in : (symbols : Symbols) (word t : Name) → list_any (bytes_eq word) symbols.attributes ≡ false
    → (sts : List Statement)
    → option_map (λ (st : Statement). st.line) (find (λ st. not (members_known symbols st.what)) sts) ≡ None
    → has_attribute sts t word ≡ false
unlisted_in symbols word t none [] known = refl
unlisted_in symbols word t none (st ∷ sts) known =
    by (members_known symbols st.what) refl known (λ h. unlisted_in symbols word t none sts h) where
      by : (b : Bool) → members_known symbols st.what ≡ b
          → option_map (λ (s : Statement). s.line)
          (cond (not b) (Some st) (find (λ s. not (members_known symbols s.what)) sts)) ≡ None
          → (option_map (λ (s : Statement). s.line) (find (λ s. not (members_known symbols s.what)) sts) ≡ None
          → has_attribute sts t word ≡ false) → has_attribute (st ∷ sts) t word ≡ false
      by true e h rest = rw (unlisted_what symbols word t none st.what e) (rest h)
      by false e h rest = absurd (cc h)

accepted : (policy : List Statement) (s : Symbols) → symbols_of policy ≡ Ok s
    → (declared nothing policy ≡ Ok s) × (first_unknown s policy ≡ None)
unfolding symbols_of
accepted policy s h = by (declared nothing policy) refl h where
  last : (x : Symbols) (o : Option ℕ) → first_unknown x policy ≡ o → unless o x ≡ Ok s → (x ≡ s) × (o ≡ None)
  last x None e h = (cc h, refl)
  last x (Some line) e h = absurd (cc h)

  by : (r : Step Symbols) → declared nothing policy ≡ r → (r >>= λ x. unless (first_unknown x policy) x) ≡ Ok s
      → (declared nothing policy ≡ Ok s) × (first_unknown s policy ≡ None)
  by (Ok x) e h = let p = last x (first_unknown x policy) refl h in (e ∙ ap (λ (y : Symbols). Ok y) p.0, rw p.0 at p.1)
  by (Err f) e h = absurd (cc h)

-- A word that is no attribute is none of any type.
pub unlisted : (policy : List Statement) (table : Table) (word t : Name) → IsOf policy table
    → list_any (bytes_eq word) table.symbols.attributes ≡ false → has_attribute policy t word ≡ false
unlisted policy table word t is none = unlisted_in table.symbols word t none policy
    (accepted policy table.symbols is.accepted).1

-- ---- the names that were declared are those of the statements, in their order

taken : (symbols next : Symbols) (b d : Bool) (f g : TypesFault) (x : Symbols)
    → cond b (Err f) (cond d (Err g) (Ok x)) ≡ Ok next → x ≡ next
taken symbols next true d f g x h = absurd (cc h)
taken symbols next false true f g x h = absurd (cc h)
taken symbols next false false f g x h = cc h

step_names : (symbols next : Symbols) (line : ℕ) (what : What) → with_declaration symbols line what ≡ Ok next
    → (next.types ≡ symbols.types ++ cons_option (type_of what) [])
    × (next.attributes ≡ symbols.attributes ++ cons_option (attribute_of what) [])
unfolding with_declaration with_type with_attribute
step_names symbols next line (Attribute n) h =
    let e = taken symbols next (is_declared symbols n) (nat_le MOST_ATTRIBUTES (length symbols.attributes)) (Twice line)
    TooMany (record { types = symbols.types; attributes = symbols.attributes ++ n ∷ [] }) h in
    (rw (← e) (sym (append-nil symbols.types)), rw (← e) refl)
step_names symbols next line (Declared n names) h =
    let e = taken symbols next (is_declared symbols n) (nat_le MOST_TYPES (length symbols.types)) (Twice line) TooMany
    (record { types = symbols.types ++ n ∷ []; attributes = symbols.attributes }) h in
    (rw (← e) refl, rw (← e) (sym (append-nil symbols.attributes)))
step_names symbols next line (Member n names) h = let e : symbols ≡ next = cc h in
    (rw (← e) (sym (append-nil symbols.types)), rw (← e) (sym (append-nil symbols.attributes)))
step_names symbols next line (Rule kind r) h = let e : symbols ≡ next = cc h in
    (rw (← e) (sym (append-nil symbols.types)), rw (← e) (sym (append-nil symbols.attributes)))
step_names symbols next line (Permissive n) h = let e : symbols ≡ next = cc h in
    (rw (← e) (sym (append-nil symbols.types)), rw (← e) (sym (append-nil symbols.attributes)))

-- No word is in both lists.
abbrev Apart : List Name → List Name → Type 0
Apart xs ys = (word : Name) → list_any (bytes_eq word) xs ≡ true → list_any (bytes_eq word) ys ≡ true → ⊥

apart_more : (xs ys : List Name) (name : Name) → Apart xs ys → list_any (bytes_eq name) ys ≡ false
    → Apart (xs ++ name ∷ []) ys
apart_more xs ys name before new word h g = by (bytes_eq word name) refl where
  by : (b : Bool) → bytes_eq word name ≡ b → ⊥
  by true e = true≢false (sym g ∙ rw (same_name word name e) new)
  by false e = before word (sym (or-false _) ∙ (rw (list_any-append (bytes_eq word) xs (name ∷ []), e) at h)) g

declared_new : (next : Symbols) (b d : Bool) (f g : TypesFault) (x : Symbols)
    → cond b (Err f) (cond d (Err g) (Ok x)) ≡ Ok next → b ≡ false
declared_new next true d f g x h = absurd (cc h)
declared_new next false d f g x h = refl

step_apart : (symbols next : Symbols) (line : ℕ) (what : What) → with_declaration symbols line what ≡ Ok next
    → Apart symbols.types symbols.attributes → Apart next.types next.attributes
unfolding with_declaration with_type with_attribute
step_apart symbols next line (Attribute n) h before =
    let x : Symbols = record { types = symbols.types; attributes = symbols.attributes ++ n ∷ [] } in
    let new = declared_new next (is_declared symbols n) (nat_le MOST_ATTRIBUTES (length symbols.attributes))
    (Twice line) TooMany x h in
    let e = taken symbols next (is_declared symbols n) (nat_le MOST_ATTRIBUTES (length symbols.attributes)) (Twice line)
    TooMany x h in
    rw (← e) (λ word t a. apart_more symbols.attributes symbols.types n (λ w p q. before w q p)
    (or_parts (list_any (bytes_eq n) symbols.types) (list_any (bytes_eq n) symbols.attributes) new).0 word a t)
step_apart symbols next line (Declared n names) h before =
    let x : Symbols = record { types = symbols.types ++ n ∷ []; attributes = symbols.attributes } in
    let new = declared_new next (is_declared symbols n) (nat_le MOST_TYPES (length symbols.types)) (Twice line) TooMany
    x h in
    let e = taken symbols next (is_declared symbols n) (nat_le MOST_TYPES (length symbols.types)) (Twice line) TooMany
    x h in
    rw (← e) (apart_more symbols.types symbols.attributes n before
    (or_parts (list_any (bytes_eq n) symbols.types) (list_any (bytes_eq n) symbols.attributes) new).1)
step_apart symbols next line (Member n names) h before = let e : symbols ≡ next = cc h in rw (← e) before
step_apart symbols next line (Rule kind r) h before = let e : symbols ≡ next = cc h in rw (← e) before
step_apart symbols next line (Permissive n) h before = let e : symbols ≡ next = cc h in rw (← e) before

all_apart : (sts : List Statement) (symbols last : Symbols) → declared symbols sts ≡ Ok last
    → Apart symbols.types symbols.attributes → Apart last.types last.attributes
unfolding declared
all_apart [] symbols last h before = let e : symbols ≡ last = cc h in rw (← e) before
all_apart (st ∷ sts) symbols last h before = by (with_declaration symbols st.line st.what) refl h
    (λ next g. all_apart sts next last g) where
      by : (r : Step Symbols) → with_declaration symbols st.line st.what ≡ r
          → (r >>= λ next. declared next sts) ≡ Ok last
          → ((next : Symbols) → declared next sts ≡ Ok last → Apart next.types next.attributes
          → Apart last.types last.attributes)
          → Apart last.types last.attributes
      by (Ok next) e h rest = rest next h (step_apart symbols next st.line st.what e before)
      by (Err f) e h rest = absurd (cc h)

-- No word names both a type and an attribute of an accepted policy.
pub apart : (policy : List Statement) (table : Table) (word : Name) → IsOf policy table
    → list_any (bytes_eq word) table.symbols.types ≡ true → list_any (bytes_eq word) table.symbols.attributes ≡ false
apart policy table word is h = false_from_ne_true (list_any (bytes_eq word) table.symbols.attributes)
    (λ g. all_apart policy nothing table.symbols (accepted policy table.symbols is.accepted).0
    (λ w t a. true≢false (sym t)) word h g)

-- A word that names a type gives no attribute.
pub named_type : (policy : List Statement) (table : Table) (word t : Name) → IsOf policy table
    → list_any (bytes_eq word) table.symbols.types ≡ true → is_named policy t word ≡ bytes_eq word t
named_type policy table word t is h =
    rw (unlisted policy table word t is (apart policy table word is h)) (or-false (bytes_eq word t))

-- A word that names an attribute names the types of that attribute's row.
pub named_attribute : (policy : List Statement) (table : Table) (word : Name) (a i : ℕ) → IsOf policy table
    → position (bytes_eq word) table.symbols.attributes ≡ Some a → i < length table.symbols.types
    → is_named policy (at table.symbols.types i) word ≡ has (row table.members.items a) i
named_attribute policy table word a i is found inside =
    let names = table.symbols.attributes in
    let p = position-Some (bytes_eq word) names a [] found in
    let none = false_from_ne_true (list_any (bytes_eq word) table.symbols.types)
    (λ t. true≢false (sym (list_any_at (bytes_eq word) names a [] p.0 p.1) ∙ apart policy table word is t)) in
    rw (absent_at (bytes_eq word) table.symbols.types i [] none inside)
    (ap (λ (n : Name). has_attribute policy (at table.symbols.types i) n) (same_name word (at names a) p.1)
    ∙ sym (is.rows.says a i p.0 inside))

behind : (xs : List Name) (o : Option Name) (ys : List Name) → (xs ++ cons_option o []) ++ ys ≡ xs ++ cons_option o ys
behind xs None ys = ap (λ (zs : List Name). zs ++ ys) (append-nil xs)
behind xs (Some n) ys = append_assoc xs (n ∷ []) ys

in_order : (sts : List Statement) (symbols last : Symbols) → declared symbols sts ≡ Ok last
    → (last.types ≡ symbols.types ++ types sts) × (last.attributes ≡ symbols.attributes ++ attributes sts)
unfolding declared
in_order [] symbols last h = let e : symbols ≡ last = cc h in
    (rw (← e) (sym (append-nil symbols.types)), rw (← e) (sym (append-nil symbols.attributes)))
in_order (st ∷ sts) symbols last h = by (with_declaration symbols st.line st.what) refl h
    (λ next g. in_order sts next last g) where
      by : (r : Step Symbols) → with_declaration symbols st.line st.what ≡ r
          → (r >>= λ next. declared next sts) ≡ Ok last
          → ((next : Symbols) → declared next sts ≡ Ok last
          → (last.types ≡ next.types ++ types sts) × (last.attributes ≡ next.attributes ++ attributes sts))
          → (last.types ≡ symbols.types ++ types (st ∷ sts))
          × (last.attributes ≡ symbols.attributes ++ attributes (st ∷ sts))
      by (Ok next) e h rest =
          let p = rest next h in
          let q = step_names symbols next st.line st.what e in (
            p.0 ∙ (ap (λ (xs : List Name). xs ++ types sts) q.0 ∙ behind symbols.types (type_of st.what) (types sts)),
            p.1 ∙ (ap (λ (xs : List Name). xs ++ attributes sts) q.1
                ∙ behind symbols.attributes (attribute_of st.what) (attributes sts)),
          )
      by (Err f) e h rest = absurd (cc h)

-- The symbols of an accepted policy are its types and its attributes.
pub names_in_order : (policy : List Statement) (s : Symbols) → symbols_of policy ≡ Ok s
    → (s.types ≡ types policy) × (s.attributes ≡ attributes policy)
names_in_order policy s h = in_order policy nothing s (accepted policy s h).0

same_eq : (a b : Name) → bytes_eq a b ≡ bytes_eq b a
same_eq a b = by (bytes_eq a b) refl where
  by : (r : Bool) → bytes_eq a b ≡ r → bytes_eq a b ≡ bytes_eq b a
  by true h = h ∙ sym (name_same b a (sym (same_name a b h)))
  by false h = h ∙ sym (false_from_ne_true (bytes_eq b a)
      (λ t. true≢false (sym (name_same a b (sym (same_name b a t))) ∙ h)))

-- A type is declared where it is among the types.
pub declares_type : (t : Name) (policy : List Statement) → list_any (bytes_eq t) (types policy) ≡ declares policy t
declares_type t [] = refl
declares_type t (st ∷ sts) = by st.what (declares_type t sts) where
  by : (what : What) → list_any (bytes_eq t) (types sts) ≡ declares sts t
      → list_any (bytes_eq t) (cons_option (type_of what) (types sts)) ≡ (is_type_named t what || declares sts t)
  by (Declared n names) h = rw (same_eq t n, h) refl
  by (Attribute n) h = h
  by (Member n names) h = h
  by (Rule kind r) h = h
  by (Permissive n) h = h

-- Each type is in a declaration.
pub declared_type : (policy : List Statement) (table : Table) (i : ℕ) → IsOf policy table
    → i < length table.symbols.types → declares policy (at table.symbols.types i) ≡ true
declared_type policy table i is h =
    let t : Name = at table.symbols.types i in
    sym (declares_type t policy) ∙ (rw (← is.types)
    (list_any_at (bytes_eq t) table.symbols.types i [] h (name_same t t refl)))
