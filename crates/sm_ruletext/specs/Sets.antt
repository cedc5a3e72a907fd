-- Sets of names that denote only themselves, as classes and permissions do.
use Rattle.std.specs.Prelude.{ℕ, Bool, not, ◌&&◌, ◌||◌, if◌then◌else◌, List, codes}
use Rattle.sm_values.specs.Names.{contains}
use Rattle.sm_ruletext.specs.Items.{Set}

-- A set has a name: a positive item is that name and no `-` item is; `~` negates that.
unfoldable pub selects : Set → List ℕ → Bool
selects set name =
    let among = (set.all || contains set.plus name) && not (contains set.minus name) in
    if set.complement then not among else among

-- A set of classes has one of the two that servicemanager checks.
abbrev pub selects_kept : Set → Bool
selects_kept set = selects set (codes "service_manager") || selects set (codes "binder")
