-- What a server's threads share.
use denote.RattleType.{RattleType}
use denote.Ref.{NamedLft}
use denote.Param.Send.{IsSend, IsSync, recorded_sync, shr_sync, struct_sync}
use denote.Struct.Declared as struct
use Rattle.std.proofs.Crossing.{Vec-send}
use Rattle.std.proofs.alloc.Global.TheSendSync as GlobalCrosses
use Rattle.std.proofs.option.Option.TheSendSync as OptionCrosses
use Rattle.std.proofs.sync.Mutex.TheSendSync as MutexCrosses
use Rattle.sm_door.specs.declared.registry.Naming.{Ghosts}
use Rattle.sm_door.specs.contracts.admin.Admin as Admin
use Rattle.sm_door.specs.contracts.door.Door as Door
use Rattle.sm_door.specs.contracts.seat.Seat as Seat
use Rattle.sm_door.specs.contracts.published.PublishedAbsorbArcSharedView.TheImpl as Absorb
use Rattle.sm_door.proofs.Crossing.{admin_send, door_sync, seat_send}
use Rattle.sm_account.specs.declared.chronicle.Chronicle as chronicle
use Rattle.sm_account.specs.contracts.account.Account as Account
use Rattle.sm_account.specs.contracts.holds.AdminHolds.TheImpl as AdminHolds
use Rattle.sm_account.specs.contracts.holds.SeatHolds.TheImpl as SeatHolds
use Rattle.sm_account.proofs.account.Account.TheSendSync as AccountCrosses
use Rattle.sm_account.proofs.Crossing.{gauge_sync}
use Rattle.sm_bells.proofs.bells.Ringer.TheSendSync as RingerCrosses
use Rattle.sm_serve.specs.contracts.accounts.Accounts as Accounts
use Rattle.sm_serve.specs.contracts.shared_admin.SharedAdmin as SharedAdmin
use Rattle.sm_serve.specs.contracts.serving.Common as Common
use Rattle.sm_serve.proofs.faults.Faults.TheSendSync as FaultsCross
use Rattle.sm_serve.proofs.patience.Patience.TheSendSync as PatienceCrosses
use Rattle.sm_serve.proofs.queue.Queue.TheSendSync as QueueCrosses

module _ (T : RattleType) (g : Ghosts T.Denot) where
  sealer_sync : IsSync (SharedAdmin.the_field T g).row
  sealer_sync =
      let D = SharedAdmin.the_type T g in
      struct_sync (struct.shape D) (MutexCrosses.the_sync (Admin.the_row T g) (admin_send T g), tt)

  pub common_sync : (G H : RattleType) (a : NamedLft) → IsSync G → IsSync H → IsSync (Common.the_row a T G H g)
  common_sync G H a gate host =
      let D = Common.the_type a T G H g in
      let door = shr_sync _ _ (Door.the_row T G g (Absorb.ghosts T g Absorb.no_dict)) (door_sync T g G gate) in
      recorded_sync _ _ _ D.to_one (struct_sync (struct.shape D) (
        GlobalCrosses.the_field_sync,
        (
          shr_sync _ _ H host,
          (
            door,
            (
              PatienceCrosses.the_field_sync,
              (
                RingerCrosses.the_field_sync,
                (QueueCrosses.the_field_sync, (sealer_sync, (gauge_sync, (FaultsCross.the_field_sync, tt)))),
              ),
            ),
          ),
        ),
      ))

  pub accounts_sync : (K : RattleType) (k : chronicle.Ghosts K.Denot) → IsSend K → IsSync (Accounts.the_row T K g k)
  accounts_sync K k crosses =
      let D = Accounts.the_type T K g k in
      let seats = SeatHolds.ghosts T g SeatHolds.no_dict in
      let admins = AdminHolds.ghosts T g AdminHolds.no_dict in
      let worker = AccountCrosses.the_send (Seat.the_row T g) K seats k (seat_send T g) crosses in
      let admin = AccountCrosses.the_send (Admin.the_row T g) K admins k (admin_send T g) crosses in
      recorded_sync _ _ _ D.to_one (struct_sync (struct.shape D) (
        MutexCrosses.the_sync _ (Vec-send _ worker),
        (MutexCrosses.the_sync _ (OptionCrosses.the_send _ admin), (MutexCrosses.the_sync _ admin, tt)),
      ))
