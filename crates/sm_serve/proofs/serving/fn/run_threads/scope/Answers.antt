use denote.Exit.{no}
use denote.Param.{param}
use denote.Param.Send.{IsSend, IsSync, sendable, arg_send, param_send, param_sync}
use denote.Param.Send.{recorded_send, shr_send, struct_send}
use denote.Ref.{NamedLft}
use denote.Struct.Field as Field
use denote.Struct.Tuple as Tuple
use denote.Struct.Declared as struct
use mir.Syntax.{named}
use Rattle.std.specs.Prelude.{codes, [], ◌∷◌}
use Rattle.sm_serve.specs.contracts.accounts.Accounts as Accounts
use Rattle.sm_serve.specs.contracts.serving.Common as Common
use Rattle.sm_serve.proofs.Crossing.{accounts_sync, common_sync}
use Rattle.sm_serve.proofs.serving.fn.run_threads.scope.Goals as goal

pub spawn-started-requires-send-F : goal.spawn-started-requires-send-F
spawn-started-requires-send-F g c κs within =
    let J = param 0 g.row.J in
    let K = param 1 g.row.K in
    let G = param 2 g.row.G in
    let H = param 5 g.row.H in
    let R = param 6 g.row.R in
    let bounds = c.requires.1.1.1.1.1.1.1 in
    let a : NamedLft = record { mir = named 7; lft = κs.1.1.1.1.1.1.1.0 } in
    let handle : IsSync R = param_sync 6 _ bounds.7 in
    let shared = Common.the_row a J G H g.J.Naming in
    let common = common_sync J g.J.Naming G H a (param_sync 2 _ bounds.5) (param_sync 5 _ bounds.6) in
    let all = Accounts.the_row J K g.J.Naming g.K.Chronicle in
    let accounts = accounts_sync J g.J.Naming K g.K.Chronicle (param_send 1 _ bounds.1) in
    let held = Tuple.type_at (codes "sm_serve::serving::fn::run_threads::fn::scope::spawn+Self")
    ((Field.shr_ref_field (record { mir = named 5; lft = κs.1.1.1.1.1.0 }) R tt).row
    ∷ (Field.shr_ref_field (record { mir = named 6; lft = κs.1.1.1.1.1.1.0 }) shared tt).row
    ∷ (Field.shr_ref_field (record { mir = named 8; lft = κs.1.1.1.1.1.1.1.1.0 }) all tt).row
    ∷ []) in
    param_send 1 _ (arg_send _ no _ (recorded_send _ _ _ held.to_one (struct_send (struct.shape held)
    (shr_send _ _ _ handle, (shr_send _ _ _ common, (shr_send _ _ _ accounts, tt))))))

pub spawn-started-requires-2-send-F : goal.spawn-started-requires-2-send-F
spawn-started-requires-2-send-F g c κs within =
    let J = param 0 g.row.J in
    let K = param 1 g.row.K in
    let G = param 2 g.row.G in
    let A = param 4 g.row.A in
    let H = param 5 g.row.H in
    let R = param 6 g.row.R in
    let bounds = c.requires.1.1.1.1.1.1.1 in
    let a : NamedLft = record { mir = named 7; lft = κs.1.1.1.1.1.1.1.0 } in
    let handle : IsSync R = param_sync 6 _ bounds.7 in
    let shared = Common.the_row a J G H g.J.Naming in
    let common = common_sync J g.J.Naming G H a (param_sync 2 _ bounds.5) (param_sync 5 _ bounds.6) in
    let all = Accounts.the_row J K g.J.Naming g.K.Chronicle in
    let accounts = accounts_sync J g.J.Naming K g.K.Chronicle (param_send 1 _ bounds.1) in
    let entrance : IsSend A = param_send 4 _ bounds.3 in
    let number : IsSend Field.u64-field.row = search sendable depth 20 in
    let held = Tuple.type_at (codes "sm_serve::serving::fn::run_threads::fn::scope::spawn+2+Self")
    ((Field.shr_ref_field (record { mir = named 5; lft = κs.1.1.1.1.1.0 }) R tt).row
    ∷ (Field.shr_ref_field (record { mir = named 6; lft = κs.1.1.1.1.1.1.0 }) shared tt).row
    ∷ (Field.shr_ref_field (record { mir = named 8; lft = κs.1.1.1.1.1.1.1.1.0 }) all tt).row
    ∷ A ∷ Field.u64-field.row ∷ []) in
    param_send 1 _ (arg_send _ no _ (recorded_send _ _ _ held.to_one (struct_send (struct.shape held)
    (shr_send _ _ _ handle, (shr_send _ _ _ common, (shr_send _ _ _ accounts, (entrance, (number, tt))))))))

pub spawn-started-requires-in-Some-send-F : goal.spawn-started-requires-in-Some-send-F
spawn-started-requires-in-Some-send-F g c κs within =
    let J = param 0 g.row.J in
    let G = param 2 g.row.G in
    let H = param 5 g.row.H in
    let R = param 6 g.row.R in
    let bounds = c.requires.1.1.1.1.1.1.1 in
    let a : NamedLft = record { mir = named 7; lft = κs.1.1.1.1.1.1.1.0 } in
    let handle : IsSync R = param_sync 6 _ bounds.7 in
    let shared = Common.the_row a J G H g.J.Naming in
    let common = common_sync J g.J.Naming G H a (param_sync 2 _ bounds.5) (param_sync 5 _ bounds.6) in
    let number : IsSend Field.u64-field.row = search sendable depth 20 in
    let held = Tuple.type_at (codes "sm_serve::serving::fn::run_threads::fn::scope::spawn+3+Self")
    ((Field.shr_ref_field (record { mir = named 5; lft = κs.1.1.1.1.1.0 }) R tt).row
    ∷ (Field.shr_ref_field (record { mir = named 6; lft = κs.1.1.1.1.1.1.0 }) shared tt).row
    ∷ Field.u64-field.row ∷ []) in
    param_send 1 _ (arg_send _ no _ (recorded_send _ _ _ held.to_one (struct_send (struct.shape held)
    (shr_send _ _ _ handle, (shr_send _ _ _ common, (number, tt))))))

pub spawn-started-requires-in-Some-owner-send-F : goal.spawn-started-requires-in-Some-owner-send-F
spawn-started-requires-in-Some-owner-send-F g c κs within =
    let J = param 0 g.row.J in
    let G = param 2 g.row.G in
    let A = param 4 g.row.A in
    let H = param 5 g.row.H in
    let R = param 6 g.row.R in
    let bounds = c.requires.1.1.1.1.1.1.1 in
    let a : NamedLft = record { mir = named 7; lft = κs.1.1.1.1.1.1.1.0 } in
    let handle : IsSync R = param_sync 6 _ bounds.7 in
    let shared = Common.the_row a J G H g.J.Naming in
    let common = common_sync J g.J.Naming G H a (param_sync 2 _ bounds.5) (param_sync 5 _ bounds.6) in
    let entrance : IsSend A = param_send 4 _ bounds.3 in
    let number : IsSend Field.u64-field.row = search sendable depth 20 in
    let held = Tuple.type_at (codes "sm_serve::serving::fn::run_threads::fn::scope::spawn+4+Self")
    ((Field.shr_ref_field (record { mir = named 5; lft = κs.1.1.1.1.1.0 }) R tt).row
    ∷ (Field.shr_ref_field (record { mir = named 6; lft = κs.1.1.1.1.1.1.0 }) shared tt).row
    ∷ A ∷ Field.u64-field.row ∷ []) in
    param_send 1 _ (arg_send _ no _ (recorded_send _ _ _ held.to_one (struct_send (struct.shape held)
    (shr_send _ _ _ handle, (shr_send _ _ _ common, (entrance, (number, tt)))))))
