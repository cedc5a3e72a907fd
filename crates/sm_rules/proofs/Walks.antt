-- The loop over the statements of a source.
use Rattle.std.proofs.Common.{◌≡◌, List, [], ◌∷◌, Option, Some, None, refl, sym, ◌∙◌}
use Rattle.std.specs.Option.{option_or}
use Rattle.sm_ruletext.specs.declared.statement.Statement.{Statement}
use Rattle.sm_types.specs.Denoting.{Policy}
use Rattle.sm_rules.specs.declared.fault.RulesFault.{RulesFault}
use Rattle.sm_rules.specs.declared.fault.RulesFault.TheVariants.{Unknown, UnknownPermission, Memory}
use Rattle.sm_rules.specs.Faults.{fault_of, fault_among, UnlessMemory}

one_more : (policy : Policy) (st : Statement) (sts : List Statement)
    → fault_among policy (st ∷ sts) ≡ option_or (fault_of policy st.line st.what) (fault_among policy sts)
unfolding fault_among
one_more policy st sts = refl

pub passed : (policy : Policy) (st : Statement) (sts : List Statement) (total : Option RulesFault)
    → fault_among policy (st ∷ sts) ≡ total
    → fault_of policy st.line st.what ≡ None → fault_among policy sts ≡ total
passed policy st sts total on none = rw none at (sym (one_more policy st sts) ∙ on)

pub stopped : (policy : Policy) (st : Statement) (sts : List Statement) (total : Option RulesFault) (e : RulesFault)
    → fault_among policy (st ∷ sts) ≡ total
    → UnlessMemory e (fault_of policy st.line st.what ≡ Some e) → UnlessMemory e (total ≡ Some e)
stopped policy st sts total e on fault = by e fault where
  found : (f : RulesFault) → fault_of policy st.line st.what ≡ Some f → total ≡ Some f
  found f h = sym (rw h at (sym (one_more policy st sts) ∙ on))

  by : (f : RulesFault) → UnlessMemory f (fault_of policy st.line st.what ≡ Some f) → UnlessMemory f (total ≡ Some f)
  by Memory h = tt
  by (Unknown n) h = found (Unknown n) h
  by (UnknownPermission n) h = found (UnknownPermission n) h

pub none_left : (policy : Policy) (sts : List Statement) → sts ≡ [] → fault_among policy sts ≡ None
unfolding fault_among
none_left policy sts e = rw e refl

pub unless_map : (e : RulesFault) (P Q : Type 0) → (P → Q) → UnlessMemory e P → UnlessMemory e Q
unless_map Memory P Q f h = tt
unless_map (Unknown n) P Q f h = f h
unless_map (UnknownPermission n) P Q f h = f h
