-- What it means that a history begins with another.
use Rattle.std.specs.Prelude.{ℕ, ◌≡◌, ◌≤◌, true, List, [], ◌∷◌, ◌++◌}
use Rattle.sm_history.specs.declared.by.By.{By}
use Rattle.sm_history.specs.declared.entry.Entry.{Entry}
use Rattle.sm_history.specs.Clients.{next_client, version_at}
use Rattle.sm_history.specs.Histories.{History, entered, effects_of, length_of, turn_of}
use Rattle.sm_history.specs.Verdict.{is_there}
use Rattle.sm_history.specs.Segments.{sealed}
use Rattle.sm_history.specs.Lawful.{IsJudged}

-- A history goes on by a change or by a seal.
pub data Move : Type 0 where
  Made : Entry → Move
  Seals : Move

-- A history goes on by moves, newest first.
abbrev pub gone_on : History → List Move → History
gone_on h [] = h
gone_on h (Made e ∷ moves) = entered e (gone_on h moves)
gone_on h (Seals ∷ moves) = sealed (gone_on h moves)

-- Each change among these moves is judged by the history before it.
abbrev pub AreJudged : ℕ → History → List Move → Type 0
AreJudged places h [] = Unit {0}
AreJudged places h (Made e ∷ moves) = IsJudged places e (gone_on h moves) × AreJudged places h moves
AreJudged places h (Seals ∷ moves) = AreJudged places h moves

-- The history `new` begins with the history `old` if moves lead from `old` to `new`. Each change among them is judged by
-- the history before it, with this number of journal slots.
pub record BeginsWith (places : ℕ) (new old : History) : Type 0 where
  pub moves : List Move
  pub is : new ≡ gone_on old moves
  pub judged : AreJudged places old moves

-- Both are one segment, and `new` has the entries of `old` and newer ones, which come first in its list.
pub record IsLonger (new old : History) : Type 0 where
  pub opening : new.opening ≡ old.opening
  pub rest : List Entry
  pub entries : new.entries ≡ rest ++ old.entries

-- None of these is less in the later history; turns, only of actors that are there in it.
pub record IsLater (new old : History) : Type 0 where
  pub number : old.number ≤ new.number
  pub length : length_of old ≤ length_of new
  pub version : version_at (effects_of old) ≤ version_at (effects_of new)
  pub clients : next_client (effects_of old) ≤ next_client (effects_of new)
  pub turns : (by : By) → is_there (effects_of new) by ≡ true → turn_of old by ≤ turn_of new by
