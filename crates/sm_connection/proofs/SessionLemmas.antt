-- The answer to an item that was asked.
use Rattle.std.specs.Prelude.{MatchBool, if◌then◌else◌}
use Rattle.std.proofs.Common.{◌≡◌, ℕ, List, [], ◌++◌, Bool, true, false, ap, refl, sym, Result, OnOk}
use Rattle.std.proofs.Common.{append-nil}
use Rattle.std.proofs.lemmas.Result.{on_ok_weaker}
use Rattle.sm_history.specs.declared.reply.Reply.{Reply}
use Rattle.sm_wire.specs.declared.item.Item.{Item}
use Rattle.sm_wire.specs.Replies.{told_text}
use Rattle.sm_engine.specs.Running.{Answered}
use Rattle.sm_connection.specs.declared.response.Response.{Response}
use Rattle.sm_connection.specs.declared.response.Response.TheVariants.{Replied, PolicyRefused, Denied}
use Rattle.sm_connection.specs.declared.session_state.SessionState.{SessionState}
use Rattle.sm_connection.specs.Responses.{response_text}
use Rattle.sm_connection.specs.Sessions.{AnswersItem, Asks, is_asked, reply_told}

-- The line of an answer depends only on the visible part of a reply.
pub response_text-same : (f g : Reply → Reply) → ((r : Reply) → f r ≡ g r) → (response : Response)
    → response_text f response ≡ response_text g response
unfolding response_text
response_text-same f g same (Replied reply) = ap told_text (same reply)
response_text-same f g same (PolicyRefused fault) = refl
response_text-same f g same (Denied records) = refl

sits : (over asked : Bool) (P Q R : Type 0) → (if over then false else asked) ≡ true → Q
    → MatchBool over P (MatchBool asked Q R)
sits true asked P Q R e q = absurd (cc e)
sits false true P Q R e q = q
sits false false P Q R e q = absurd (cc e)

module _ {D : Type 0} (answers : D → Item → Response → D → Type 0) (old : SessionState D) (item : Item) where
  -- An item that was passed to the desk is answered so.
  pub taken : (response : Response) (new : SessionState D) (told : Reply → Reply)
      → (if old.over then false else is_asked old.kind old.connected item) ≡ true
      → ((r : Reply) → reply_told item r ≡ told r) → Asks answers old item response new
      → AnswersItem answers old item (response_text told response) [] new
  taken response new told asked tells asks = (
    sits old.over (is_asked old.kind old.connected item) _ _ _ asked
        (response, asks, response_text-same told (reply_told item) (λ r. sym (tells r)) response),
    refl,
  )

  pub written : {E : Type 0} (new : SessionState D) (r : Result (Unit {0}) E) (replies replies_new audit text : List ℕ)
      → AnswersItem answers old item text [] new → OnOk r (replies_new ≡ replies ++ text)
      → OnOk r (Answered (AnswersItem answers) old item replies replies_new audit audit new)
  written new r replies replies_new audit text step = on_ok_weaker r (λ (e : replies_new ≡ replies ++ text). record {
    reply = text;
    lines = [];
    step = step;
    replied = e;
    audited = sym (append-nil audit);
  })
