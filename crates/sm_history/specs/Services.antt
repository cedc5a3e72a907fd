-- Names and watches.
use Rattle.std.specs.Prelude.{ℕ, Bool, ◌&&◌, ◌||◌, not, ◌==◌, nat_lt, List, [], ◌∷◌, ◌++◌, Option, Some, None}
use Rattle.std.specs.Prelude.{bytes_eq, if◌then◌else◌, filter, is_some, length}
use Rattle.std.specs.Ordering.{nat_cmp}
use Rattle.std.specs.Cmp.Lexicographic.{slice_cmp}
use Rattle.std.specs.declared.cmp.Ordering.{Ordering, TheVariants.Less, TheVariants.Equal, TheVariants.Greater}
use Rattle.sm_history.specs.Effects.{Effect, Effects, Service, Watch, Adds, Removes, Watches, Unwatches}
use Rattle.sm_history.specs.Clients.{is_live}
use Rattle.sm_history.specs.declared.limits.TheConstants.{MOST_NAMES}

-- An effect may register a service under a name, remove it, or leave the name alone.
pub data Said : Type 0 where
  Silent : Said
  Gone : Said
  Here : Service → Said

-- This is what an effect does to a name.
abbrev pub said_of : List ℕ → Effect → Said
said_of name (Adds other s) = if bytes_eq other name then Here s else Silent
said_of name (Removes other) = if bytes_eq other name then Gone else Silent
said_of name _ = Silent

-- The name's service changes so.
abbrev pub said_or : Said → Option Service → Option Service
said_or Silent before = before
said_or Gone before = None
said_or (Here s) before = Some s

-- This is the last service registered under a name, unless it was removed since.
abbrev pub last_said : Effects → List ℕ → Option Service
last_said [] name = None
last_said (x ∷ d) name = said_or (said_of name x) (last_said d name)

-- A service is there only while its object's owner lives.
abbrev pub if_owner_lives : Effects → Option Service → Option Service
if_owner_lives d None = None
if_owner_lives d (Some s) = if is_live d s.node.owner.0 then Some s else None

-- The service of a name is the last one added, unless it was unregistered or its object's owner has died.
abbrev pub service_at : Effects → List ℕ → Option Service
service_at d name = if_owner_lives d (last_said d name)

-- This is the name that an effect adds.
abbrev pub name_added : Effect → Option (List ℕ)
name_added (Adds name s) = Some name
name_added _ = None

-- A name is inserted before x, is x, or goes behind x, as it compares with x; in the last case `more` follows x.
abbrev pub placed_by : Ordering → List ℕ → List ℕ → List (List ℕ) → List (List ℕ) → List (List ℕ)
placed_by Less name x xs more = name ∷ x ∷ xs
placed_by Equal name x xs more = x ∷ xs
placed_by Greater name x xs more = x ∷ more

-- A name is inserted into names in rising byte order, unless it is there.
abbrev pub inserted_name : List ℕ → List (List ℕ) → List (List ℕ)
inserted_name name [] = name ∷ []
inserted_name name (x ∷ xs) = placed_by (slice_cmp nat_cmp name x) name x xs (inserted_name name xs)

-- A name, if there is one, is inserted.
abbrev pub with_name : Option (List ℕ) → List (List ℕ) → List (List ℕ)
with_name None names = names
with_name (Some name) names = inserted_name name names

-- These are the names that were ever added, each once, in rising byte order.
abbrev pub names_added : Effects → List (List ℕ)
names_added [] = []
names_added (x ∷ d) = with_name (name_added x) (names_added d)

-- These are the names that have a service now, in rising byte order.
abbrev pub current_names : Effects → List (List ℕ)
current_names d = filter (λ name. is_some (service_at d name)) (names_added d)

-- A name has a service, or there is room for one more name.
abbrev pub has_name_room : Effects → List ℕ → Bool
has_name_room d name = is_some (service_at d name) || nat_lt (length (current_names d)) MOST_NAMES

-- Two watches are the same.
abbrev pub same_watch : Watch → Watch → Bool
same_watch a b = (a.client == b.client) && bytes_eq a.name b.name && (a.object == b.object)

-- An effect changes the watches so.
abbrev pub watched_by : Effect → List Watch → List Watch
watched_by (Watches w) ws = ws ++ w ∷ []
watched_by (Unwatches v) ws = filter (λ w. not (same_watch v w)) ws
watched_by _ ws = ws

-- These are the watches that were made and not removed since, oldest first.
abbrev pub watches_made : Effects → List Watch
watches_made [] = []
watches_made (x ∷ d) = watched_by x (watches_made d)

-- These are the watches of live clients, oldest first.
abbrev pub watches_at : Effects → List Watch
watches_at d = filter (λ w. is_live d w.client) (watches_made d)

-- These are the watches of a name, oldest first.
abbrev pub watchers_at : Effects → List ℕ → List Watch
watchers_at d name = filter (λ w. bytes_eq w.name name) (watches_at d)
