-- What `svcmgr diff` writes of labels.
use Rattle.std.specs.Prelude.{ℕ, if◌then◌else◌, List, [], ◌∷◌, ◌++◌, codes}
use Rattle.std.specs.List.{flat_map}
use Rattle.std.specs.Str.{bytes_eq}
use Rattle.sm_values.specs.Names.{contains}
use Rattle.sm_policy.specs.Policy.{Policy, label_of}
use Rattle.sm_questions.specs.Keys.{keys_of}

-- A key is written with the contexts that two policies give to its name.
unfoldable pub label_words : List ℕ → List ℕ → List ℕ → List ℕ
label_words key before after = key ++ codes " " ++ before ++ codes " " ++ after

-- This is the line for a key.
unfoldable pub changed_line : List ℕ → List ℕ → List ℕ → List ℕ
changed_line key before after = 126 ∷ 32 ∷ (label_words key before after ++ codes "\n")

-- A key has a line if the policies give different contexts to its name.
unfoldable pub changed : Policy → Policy → List ℕ → List ℕ
changed old new key =
    if bytes_eq (label_of old key) (label_of new key) then []
    else changed_line key (label_of old key) (label_of new key)

-- A key of the new policy has one only if the old policy has no such key.
unfoldable pub added : Policy → Policy → List ℕ → List ℕ
added old new key = if contains (keys_of old) key then [] else changed old new key

-- These are the lines for the keys of the old policy.
unfoldable pub all_changed : Policy → Policy → List ℕ
all_changed old new = flat_map (changed old new) (keys_of old)

-- These are the lines for the keys that only the new policy has.
unfoldable pub all_added : Policy → Policy → List ℕ
all_added old new = flat_map (added old new) (keys_of new)
