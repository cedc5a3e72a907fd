use Rattle.std.proofs.Common.{rules}
use Rattle.sm_rules.specs.Memoed.{Grants}
use Rattle.sm_rules.proofs.kept.grants.Goals as goal

pub returns-clause-memo : goal.returns-clause-memo
returns-clause-memo c =
    let right : Grants c.args.rule.now c.perms_known-known.result c.perms_of-perms.result = search rules in
    c.keep_grants.ensures c.args.types.now c.requires right
