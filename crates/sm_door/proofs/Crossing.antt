-- A door is shared by threads, and tokens cross to other threads.
use denote.RattleType.{RattleType}
use denote.Param.Send.{IsSend, IsSync, sendable, view_send, view_sync, struct_send, struct_sync}
use denote.Param.Send.{recorded_send, recorded_sync}
use denote.Struct.Field as Field
use denote.Struct.Declared as struct
use Rattle.std.proofs.Crossing.{frees, Arc-send, Arc-sync}
use Rattle.std.proofs.alloc.Global.TheSendSync as GlobalCrosses
use Rattle.std.proofs.option.Option.TheSendSync as OptionCrosses
use Rattle.std.proofs.sync.Mutex.TheSendSync as MutexCrosses
use Rattle.std.specs.contracts.alloc.Global as Global
use Rattle.std.specs.contracts.impls.GlobalAllocator.TheImpl as Heap
use Rattle.std.specs.contracts.sync.Arc as Arc
use Rattle.left_right.proofs.reader.Reader.TheSendSync as ReaderCrosses
use Rattle.left_right.proofs.writer.Writer.TheSendSync as WriterCrosses
use Rattle.left_right.specs.contracts.reader.Reader as Reader
use Rattle.left_right.specs.contracts.writer.Writer as Writer
use Rattle.sm_values.specs.contracts.number.AdminId as AdminId
use Rattle.sm_values.specs.contracts.number.ClientId as ClientId
use Rattle.sm_history.specs.contracts.by.By as By
use Rattle.sm_core.specs.contracts.view.View as View
use Rattle.sm_core.proofs.Crossing as view
use Rattle.sm_core.proofs.CrossingManager.{manager_send}
use Rattle.sm_door.specs.declared.registry.Naming.{Ghosts}
use Rattle.sm_door.proofs.registry.HistoryId.TheSendSync as HistoryIdCrosses
use Rattle.sm_door.proofs.registry.Registry.TheSendSync as RegistryCrosses
use Rattle.sm_door.specs.contracts.shared_view.SharedView as SharedView
use Rattle.sm_door.specs.contracts.shared_view.SharedView.TheInside as SharedInside
use Rattle.sm_door.specs.contracts.published.Published as Published
use Rattle.sm_door.specs.contracts.published.ReaderKnowledge as ReaderKnowledge
use Rattle.sm_door.specs.contracts.published.OneHistory as OneHistory
use Rattle.sm_door.specs.contracts.published.OneHistoryProtocolPublishedReaderKnowledge.TheImpl as Rule
use Rattle.sm_door.specs.contracts.published.PublishedAbsorbArcSharedView.TheImpl as Absorb
use Rattle.sm_door.specs.contracts.actor.Actor as Actor
use Rattle.sm_door.specs.contracts.actor.Actor.TheInside as ActorInside
use Rattle.sm_door.specs.contracts.admin.Admin as Admin
use Rattle.sm_door.specs.contracts.admin.Admin.TheInside as AdminInside
use Rattle.sm_door.specs.contracts.seat.Seat as Seat
use Rattle.sm_door.specs.contracts.seat.Seat.TheInside as SeatInside
use Rattle.sm_door.specs.contracts.session.Session as Session
use Rattle.sm_door.specs.contracts.session.Session.TheInside as SessionInside
use Rattle.sm_door.specs.contracts.publisher.Publisher as Publisher
use Rattle.sm_door.specs.contracts.publisher.Publisher.TheInside as PublisherInside
use Rattle.sm_door.specs.contracts.locked_manager.LockedManager as LockedManager
use Rattle.sm_door.specs.contracts.locked_manager.LockedManager.TheInside as LockedInside
use Rattle.sm_door.specs.contracts.door.Door as Door

module _ (T : RattleType) (g : Ghosts T.Denot) where
  shared_view_send : IsSend (SharedView.the_row T g)
  shared_view_send =
      let D = SharedInside.the_type T g in
      view_send (SharedInside.the_row T g) _ _ _ _
      (recorded_send _ _ _ D.to_one
      (struct_send (struct.shape D) (view.view_send, (HistoryIdCrosses.the_send T g, tt))))

  shared_view_sync : IsSync (SharedView.the_row T g)
  shared_view_sync =
      let D = SharedInside.the_type T g in
      view_sync (SharedInside.the_row T g) _ _ _ _
      (recorded_sync _ _ _ D.to_one
      (struct_sync (struct.shape D) (view.view_sync, (HistoryIdCrosses.the_sync T g, tt))))

  arc_send : IsSend (Arc.the_row (SharedView.the_row T g) Global.the_row Heap.ghosts)
  arc_send = Arc-send (SharedView.the_row T g) shared_view_send shared_view_sync

  published_send : IsSend (Published.the_row T g)
  published_send =
      let D = Published.the_type T g in
      recorded_send _ _ _ D.to_one (struct_send (struct.shape D) (arc_send, tt))

  published_sync : IsSync (Published.the_row T g)
  published_sync =
      let D = Published.the_type T g in
      recorded_sync _ _ _ D.to_one
      (struct_sync (struct.shape D) (Arc-sync (SharedView.the_row T g) shared_view_send shared_view_sync, tt))

  reader_send : IsSend (Reader.the_row (Published.the_row T g) ReaderKnowledge.the_row (OneHistory.the_row T)
      Global.the_row (Rule.ghosts T g Rule.no_dict) Heap.ghosts)
  reader_send =
      ReaderCrosses.the_send (Published.the_row T g) ReaderKnowledge.the_row (OneHistory.the_row T) Global.the_row
      (Rule.ghosts T g Rule.no_dict) Heap.ghosts GlobalCrosses.the_send published_sync GlobalCrosses.the_sync frees

  writer_send : IsSend (Writer.the_row (Published.the_row T g)
      (Arc.the_row (SharedView.the_row T g) Global.the_row Heap.ghosts) ReaderKnowledge.the_row (OneHistory.the_row T)
      Global.the_row View.the_row (Absorb.ghosts T g Absorb.no_dict) (Rule.ghosts T g Rule.no_dict) Heap.ghosts)
  writer_send =
      WriterCrosses.the_send (Published.the_row T g)
      (Arc.the_row (SharedView.the_row T g) Global.the_row Heap.ghosts) ReaderKnowledge.the_row (OneHistory.the_row T)
      Global.the_row View.the_row (Absorb.ghosts T g Absorb.no_dict) (Rule.ghosts T g Rule.no_dict) Heap.ghosts
      published_send arc_send GlobalCrosses.the_send published_sync GlobalCrosses.the_sync frees

  by_send : IsSend By.the_field.row
  by_send = search sendable depth 20

  u64_send : IsSend Field.u64-field.row
  u64_send = search sendable depth 20

  actor_send : IsSend (Actor.the_row T g)
  actor_send =
      let D = ActorInside.the_type T g in
      view_send (ActorInside.the_row T g) _ _ _ _
      (recorded_send _ _ _ D.to_one (struct_send (struct.shape D)
      (GlobalCrosses.the_field_send, (by_send, (u64_send, (OptionCrosses.the_field_send _ reader_send, tt))))))

  admin_id_send : IsSend AdminId.the_field.row
  admin_id_send = search sendable depth 20

  pub admin_send : IsSend (Admin.the_row T g)
  admin_send =
      let D = AdminInside.the_type T g in
      view_send (AdminInside.the_row T g) _ _ _ _
      (recorded_send _ _ _ D.to_one (struct_send (struct.shape D) (admin_id_send, (actor_send, tt))))

  pub seat_send : IsSend (Seat.the_row T g)
  seat_send =
      let D = SeatInside.the_type T g in
      view_send (SeatInside.the_row T g) _ _ _ _
      (recorded_send _ _ _ D.to_one (struct_send (struct.shape D) (actor_send, tt)))

  client_id_send : IsSend ClientId.the_field.row
  client_id_send = search sendable depth 20

  pub session_send : IsSend (Session.the_row T g)
  session_send =
      let D = SessionInside.the_type T g in
      view_send (SessionInside.the_row T g) _ _ _ _
      (recorded_send _ _ _ D.to_one (struct_send (struct.shape D) (client_id_send, (actor_send, tt))))

  publisher_send : IsSend (Publisher.the_row T (Absorb.ghosts T g Absorb.no_dict) g)
  publisher_send =
      let D = PublisherInside.the_type T (Absorb.ghosts T g Absorb.no_dict) g in
      view_send (PublisherInside.the_row T (Absorb.ghosts T g Absorb.no_dict) g) _ _ _ _
      (recorded_send _ _ _ D.to_one (struct_send (struct.shape D)
      (GlobalCrosses.the_field_send, (RegistryCrosses.the_send T g, (OptionCrosses.the_field_send _ writer_send, tt)))))

  locked_send : IsSend (LockedManager.the_row T g (Absorb.ghosts T g Absorb.no_dict))
  locked_send =
      let D = LockedInside.the_type T g (Absorb.ghosts T g Absorb.no_dict) in
      view_send (LockedInside.the_row T g (Absorb.ghosts T g Absorb.no_dict)) _ _ _ _
      (recorded_send _ _ _ D.to_one (struct_send (struct.shape D)
      (GlobalCrosses.the_field_send, (manager_send, (publisher_send, tt)))))

  pub door_sync : (G : RattleType) → IsSync G → IsSync (Door.the_row T G g (Absorb.ghosts T g Absorb.no_dict))
  door_sync G gate =
      let D = Door.the_type T G g (Absorb.ghosts T g Absorb.no_dict) in
      recorded_sync _ _ _ D.to_one (struct_sync (struct.shape D)
      (MutexCrosses.the_sync (LockedManager.the_row T g (Absorb.ghosts T g Absorb.no_dict)) locked_send, (gate, tt)))
