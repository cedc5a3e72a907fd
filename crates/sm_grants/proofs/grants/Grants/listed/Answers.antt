use Rattle.std.proofs.Common.{◌≡◌, Some, None, sym}
use Rattle.std.proofs.lemmas.Result.{IfOk-weaker}
use Rattle.sm_grants.specs.Rows.{table_of}
use Rattle.sm_grants.proofs.Listed.{listed_is, none_is}
use Rattle.sm_grants.proofs.grants.Grants.listed.Goals as goal

pub returns-in-Some : goal.returns-in-Some
returns-in-Some c =
    let at : table_of c.args.self.now.rows.items c.args.client ≡ Some c.in-Some.handles.now =
    rw (← c.deref.ensures.value) (sym c.in-Some.ensures) in
    IfOk-weaker c.listed.result _ _ (λ v is d tr. listed_is d c.args.self.now.rows.items c.args.client
    c.in-Some.handles.now v.items tr at is) c.listed.ensures

pub returns-in-None : goal.returns-in-None
returns-in-None c d tr =
    let at : table_of c.args.self.now.rows.items c.args.client ≡ None =
    rw (← c.deref.ensures.value) (sym c.in-None.ensures) in
    none_is d c.args.self.now.rows.items c.args.client c.new.result.items tr at c.new.ensures.items
