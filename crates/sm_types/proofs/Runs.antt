-- The pass over the declarations.
use Rattle.std.proofs.Common.{◌≡◌, List, [], ◌∷◌, Ok, Err, refl, sym, ◌∙◌}
use Rattle.sm_values.specs.Reading.{◌>>=◌, Fails}
use Rattle.sm_values.proofs.Readers.{fails_along}
use Rattle.sm_ruletext.specs.declared.statement.Statement.{Statement}
use Rattle.sm_types.specs.declared.symbols.Symbols.{Symbols}
use Rattle.sm_types.specs.declared.fault.TypesFault.{TypesFault}
use Rattle.sm_types.specs.Declaring.{Step, is_memory, with_declaration, declared}

one_more : (symbols : Symbols) (st : Statement) (sts : List Statement)
    → declared symbols (st ∷ sts) ≡ (with_declaration symbols st.line st.what >>= λ next. declared next sts)
unfolding declared
one_more symbols st sts = refl

pub declared_on : (total : Step Symbols) (symbols next : Symbols) (st : Statement) (sts : List Statement)
    → declared symbols (st ∷ sts) ≡ total
    → with_declaration symbols st.line st.what ≡ Ok next → declared next sts ≡ total
declared_on total symbols next st sts so_far step =
    let u : (with_declaration symbols st.line st.what >>= λ n. declared n sts) ≡ declared next sts = rw step refl in
    sym u ∙ (sym (one_more symbols st sts) ∙ so_far)

pub declared_fault : (e : TypesFault) (total : Step Symbols) (symbols : Symbols) (st : Statement) (sts : List Statement)
    → declared symbols (st ∷ sts) ≡ total
    → Fails is_memory e (with_declaration symbols st.line st.what) → Fails is_memory e total
declared_fault e total symbols st sts so_far step =
    fails_along is_memory e (with_declaration symbols st.line st.what) total fails step where
      fails : with_declaration symbols st.line st.what ≡ Err e → total ≡ Err e
      fails h = let u : (with_declaration symbols st.line st.what >>= λ n. declared n sts) ≡ Err e = rw h refl in
          sym so_far ∙ (one_more symbols st sts ∙ u)

pub declared_all : (symbols : Symbols) (sts : List Statement) → sts ≡ [] → declared symbols sts ≡ Ok symbols
unfolding declared
declared_all symbols sts none = rw none refl
