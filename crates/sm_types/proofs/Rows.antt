-- Rows of attributes as types are added to them.
use Rattle.std.proofs.Common.{◌≡◌, ℕ, ◌+◌, ◌<◌, Bool, true, false, ◌||◌, ◌&&◌, List, [], length, get_or, take, refl}
use Rattle.std.proofs.Common.{sym, ap, ◌∙◌, eqb}
use Rattle.std.specs.Str.{bytes_eq}
use Rattle.std.proofs.Math.Bool.{or-false}
use Rattle.std.proofs.lemmas.Bool.{and_right}
use Rattle.std.proofs.lemmas.List.Folds.{list_any_more}
use Rattle.sm_bits.specs.Bits.{has, row}
use Rattle.sm_types.specs.Names.{Name, at}
use Rattle.sm_types.specs.Denoting.{gives_attribute, has_attribute}
use Rattle.sm_types.specs.Members.{Given, Fits, MembersOf}
use Rattle.sm_values.specs.Names.{contains}
use Rattle.sm_types.specs.declared.symbols.Symbols.{Symbols}
use Rattle.sm_ruletext.specs.declared.statement.Statement.{Statement}

pub given_none : (old : List (List ℕ)) (attributes : List Name) (t : ℕ) → Given old old attributes [] t
given_none old attributes t = record {
  count = refl;
  room = λ a. refl;
  given = λ a i h. sym
      (rw (and_right (eqb i t) false refl) (or-false (has (row old a) i)));
}

or_more : (x y c d : Bool) → ((x || (y && c)) || (y && d)) ≡ (x || (y && (c || d)))
or_more true y c d = refl
or_more false true c d = refl
or_more false false c d = refl

pub given_more : (old mid new : List (List ℕ)) (attributes names : List Name) (t n : ℕ) (name : Name) → n < length names
    → name ≡ get_or names n name
    → length new ≡ length mid → ((a : ℕ) → length (row new a) ≡ length (row mid a))
    → ((a i : ℕ) → a < length attributes → has (row new a) i
    ≡ (has (row mid a) i || (eqb i t && bytes_eq name (at attributes a))))
    → Given old mid attributes (take n names) t → Given old new attributes (take (n + 1) names) t
given_more old mid new attributes names t n name h is count room step before = record {
  count = count ∙ before.count;
  room = λ a. room a ∙ before.room a;
  given = λ a i small.
      let more : contains (take (n + 1) names) (at attributes a)
      ≡ (contains (take n names) (at attributes a) || bytes_eq name (at attributes a)) =
      list_any_more (λ w. bytes_eq w (at attributes a)) names n name h
      ∙ ap (λ (w : Name). contains (take n names) (at attributes a) || bytes_eq w (at attributes a)) (sym is) in
      rw (step a i small, before.given a i small, more)
      (or_more (has (row old a) i) (eqb i t) (contains (take n names) (at attributes a))
      (bytes_eq name (at attributes a)));
}

pub members_none : (symbols : Symbols) (rows : List (List ℕ)) → Fits rows symbols
    → ((a i : ℕ) → has (row rows a) i ≡ false) → MembersOf [] symbols rows
members_none symbols rows fits none = record { fits = fits; says = λ a i h g. none a i }

pub members_more : (policy : List Statement) (symbols : Symbols) (rows new : List (List ℕ)) (n : ℕ) (st : Statement)
    → n < length policy → st ≡ get_or policy n st → Fits new symbols
    → ((a i : ℕ) → a < length symbols.attributes → i < length symbols.types
    → has (row new a) i ≡ (has (row rows a) i || gives_attribute (at symbols.types i) (at symbols.attributes a)
    st.what))
    → MembersOf (take n policy) symbols rows → MembersOf (take (n + 1) policy) symbols new
members_more policy symbols rows new n st h is fits step before = record {
  fits = fits;
  says = λ a i small low.
      let p : Statement → Bool = λ s. gives_attribute (at symbols.types i) (at symbols.attributes a) s.what in
      let more : has_attribute (take (n + 1) policy) (at symbols.types i) (at symbols.attributes a)
      ≡ (has_attribute (take n policy) (at symbols.types i) (at symbols.attributes a) || p st) =
      list_any_more p policy n st h ∙ ap (λ (s : Statement). has_attribute (take n policy) (at symbols.types i)
      (at symbols.attributes a) || p s) (sym is) in
      rw (step a i small low, before.says a i small low, more) refl;
}
