-- The answer to `svcmgr diff` is that of its parts, one after another.
use Rattle.std.proofs.Common.{◌≡◌, append_assoc, refl}
use Rattle.std.specs.List.{flat_map}
use Rattle.std.proofs.lemmas.List.{append-nil}
use Rattle.sm_policy.specs.Policy.{Policy}
use Rattle.sm_questions.specs.Differences.{differences, lost, rest, turned}
use Rattle.sm_questions.specs.Parts.{all_parts, other_parts, part_lines}
use Rattle.sm_questions.specs.Relabelled.{all_added, all_changed}

pub all_lines : (old new : Policy) → differences old new ≡ flat_map (part_lines old new) all_parts
unfolding differences lost turned all_changed all_added part_lines
all_lines old new = rw (append_assoc, append_assoc, append-nil) refl

pub other_lines : (old new : Policy) → rest old new ≡ flat_map (part_lines old new) other_parts
unfolding turned all_changed all_added part_lines
other_lines old new = rw (append_assoc, append-nil) refl
