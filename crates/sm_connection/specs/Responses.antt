-- The lines of a desk's answers.
use Rattle.std.specs.Prelude.{ℕ, List}
use Rattle.sm_history.specs.declared.reply.Reply.{Reply}
use Rattle.sm_wire.specs.Replies.{denials_text, policy_refused_text, told_text}
use Rattle.sm_connection.specs.declared.response.Response.{Response}
use Rattle.sm_connection.specs.declared.response.Response.TheVariants.{Replied, PolicyRefused, Denied}

-- These are the line or the lines of an answer, with this visibility.
unfoldable pub response_text : (Reply → Reply) → Response → List ℕ
response_text told (Replied reply) = told_text (told reply)
response_text told (PolicyRefused fault) = policy_refused_text fault
response_text told (Denied records) = denials_text records.items
