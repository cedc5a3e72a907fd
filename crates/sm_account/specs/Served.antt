-- Connections that were served, and the one history of which they are parts.
use Rattle.std.specs.Prelude.{◌≡◌, ◌⊎◌, ℕ, List, [], ◌∷◌, ◌++◌, All, Option, Some, None, option_map, Result, IfSome}
use Rattle.sm_history.specs.declared.records.Record.{Record}
use Rattle.sm_history.specs.Books.{Book}
use Rattle.sm_history.specs.BookOrder.{Begins, IsLawfulBook}
use Rattle.sm_history.specs.Tokens.{Knows}
use Rattle.sm_wire.specs.declared.kind.Kind.{Kind}
use Rattle.sm_wire.specs.declared.kind.Kind.TheVariants.{Client, Admin, Script}
use Rattle.sm_engine.specs.declared.fault.Fault.{Fault}
use Rattle.sm_connection.specs.Desks.{DeskAnswers, DeskDeath}
use Rattle.sm_connection.specs.Sessions.{Attends}
use Rattle.sm_connection.specs.Connections.{AdminGives, ClientGives, GoesOn}
use Rattle.sm_connection.specs.Held.{Puts, holding}

-- A connection that was served: its kind, its result, its limit and its number of reads, and its token, records and
-- bytes before and after.
pub record Served : Type 0 where
  pub kind : Kind
  pub result : Result (Unit {0}) Fault
  pub bound : ℕ
  pub reads : ℕ
  pub first : Knows
  pub last : Knows
  pub given : Option (List Record)
  pub given_new : Option (List Record)
  pub r : Option (List ℕ)
  pub r_new : Option (List ℕ)
  pub w : Option (List ℕ)
  pub w_new : Option (List ℕ)

-- This is the connection with these parts.
abbrev pub visit : Kind → Result (Unit {0}) Fault → ℕ → ℕ → Knows → Knows → Option (List Record) → Option (List Record)
    → Option (List ℕ) → Option (List ℕ) → Option (List ℕ) → Option (List ℕ) → Served
visit kind result bound reads first last given given_new r r_new w w_new = record {
  kind = kind;
  result = result;
  bound = bound;
  reads = reads;
  first = first;
  last = last;
  given = given;
  given_new = given_new;
  r = r;
  r_new = r_new;
  w = w;
  w_new = w_new;
}

-- The connection was served as the contract of its kind says: of a client, or of an administrator.
abbrev pub ServedAs : Kind → Served → Type 0
ServedAs Client c = Attends Client (DeskAnswers (Puts ClientGives)) (DeskDeath (Puts ClientGives)) c.result c.bound
    c.reads (holding (Some c.first) c.given) c.r c.r_new c.w c.w_new (holding (Some c.last) c.given_new)
ServedAs Admin c = Attends Admin (DeskAnswers (Puts AdminGives)) (DeskDeath (Puts AdminGives)) c.result c.bound
    c.reads (holding c.first c.given) c.r c.r_new c.w c.w_new (holding c.last c.given_new)
ServedAs Script c = ⊥

-- It was served so, and the book begins with the last history from which it was answered, and so with each.
pub record IsPartOf (b : Book) (c : Served) : Type 0 where
  pub served : ServedAs c.kind c
  pub goes_on : GoesOn c.first c.last
  pub begins : Begins b c.last.seen

-- There is one lawful history, which begins with the one of the opening, and of which all these connections are parts.
pub record OneRun (opening last : Book) (all : List Served) : Type 0 where
  pub lawful : IsLawfulBook last
  pub begins : Begins last opening
  pub each : All (IsPartOf last) all

-- These are the connections with one more, if they are known.
abbrev pub with_served : Option (List Served) → Served → Option (List Served)
with_served told c = option_map (λ all. all ++ c ∷ []) told

-- These are all connections of two lists, if both are known.
abbrev pub both_told : Option (List Served) → Option (List Served) → Option (List Served)
both_told None other = None
both_told (Some all) other = option_map (λ more. all ++ more) other

-- An account has a token, and the connections that were served, if they are known.
pub record Accounted : Type 0 where
  pub token : Knows
  pub told : Option (List Served)

-- This is the account with these parts.
abbrev pub account : Knows → Option (List Served) → Accounted
account token told = record { token = token; told = told }

-- What is part of a book is part of each book that begins with it.
abbrev pub PartsStay : Type 0
PartsStay = (b later : Book) (c : Served) → IsPartOf b c → Begins later b → IsPartOf later c

-- One connection of this kind was served, which had these bytes before and after, and was added to the account; or
-- nothing was read and nothing written.
abbrev pub Attended : Kind → Accounted → Accounted → Option (List ℕ) → Option (List ℕ) → Option (List ℕ)
    → Option (List ℕ) → Type 0
Attended kind old new r r_new w w_new =
    ((new ≡ old) × (r_new ≡ r) × (w_new ≡ w))
    ⊎ ((c : Served) × (new.told ≡ with_served old.told c) × (c.kind ≡ kind) × (c.first ≡ old.token)
    × (c.last ≡ new.token) × (c.r ≡ r) × (c.r_new ≡ r_new) × (c.w ≡ w) × (c.w_new ≡ w_new))
