-- What each effect makes of the rows of names.
use Rattle.std.proofs.Common.{◌≡◌, ℕ, Bool, true, false, ◌==◌, List, ◌∷◌, refl, ap, sym, ◌∙◌, Option, Some, None}
use Rattle.std.proofs.Common.{subst, if◌then◌else◌}
use Rattle.std.specs.Prelude.{not, filter, bytes_eq}
use Rattle.sm_history.specs.Effects.{Effects, Dies}
use Rattle.sm_history.specs.Services.{service_at}
use Rattle.sm_history.specs.Rows.{NamedRow}
use Rattle.sm_history.specs.Tables.{row_in, service_of, TracksNames}
use Rattle.sm_history.proofs.Rising.{same_bytes}
use Rattle.sm_history.proofs.AfterNames.{service_dies, unless_owned}
use Rattle.sm_history.proofs.NamedRows.{keep, row_kept, rising_kept}

-- Where each name has the same service, the rows stay.
pub names_stay : (d e : Effects) (rows : List NamedRow) → ((name : List ℕ) → service_at e name ≡ service_at d name)
    → TracksNames d rows → TracksNames e rows
names_stay d e rows same tr = record { services = λ q. tr.services q ∙ sym (same q); rises = tr.rises }

-- What holds of one name, and of each other one.
by_name : (P : List ℕ → Type 0) (name : List ℕ) → P name → ((q : List ℕ) → bytes_eq name q ≡ false → P q)
    → (q : List ℕ) → P q
by_name P name own other q = elim (bytes_eq name q) as (λ b. bytes_eq name q ≡ b → P q)
    [ true ↦ λ e. subst P (same_bytes name q e) own | false ↦ λ e. other q e ] refl

abbrev not_owned : ℕ → NamedRow → Bool
not_owned c r = not (c == r.service.node.owner.0)

kept_service : (c : ℕ) (o : Option NamedRow) → service_of (keep (not_owned c) o) ≡ unless_owned c (service_of o)
kept_service c None = refl
kept_service c (Some r) = elim (c == r.service.node.owner.0) as (λ b. service_of
    (let o : Option NamedRow = if not b then Some r else None in o)
    ≡ (if b then None else Some r.service)) [ true ↦ refl | false ↦ refl ]

pub names_die : (d : Effects) (rows : List NamedRow) (c : ℕ) → TracksNames d rows
    → TracksNames (Dies c ∷ d) (filter (λ r. not (c == r.service.node.owner.0)) rows)
names_die d rows c tr = record {
  services = λ q. ap service_of (row_kept (not_owned c) rows q tr.rises) ∙ kept_service c (row_in rows q)
      ∙ ap (unless_owned c) (tr.services q) ∙ sym (service_dies d c q);
  rises = rising_kept (not_owned c) rows tr.rises;
}
