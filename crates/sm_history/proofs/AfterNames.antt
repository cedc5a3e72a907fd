-- The service of a name, after an effect.
use Rattle.std.proofs.Common.{◌≡◌, ℕ, ◌<◌, Bool, true, false, ◌&&◌, ◌==◌, List, ◌∷◌, refl, ap, Option, Some, None}
use Rattle.std.proofs.Common.{if◌then◌else◌, arith}
use Rattle.std.specs.Prelude.{not, bytes_eq}
use Rattle.std.proofs.lemmas.Bool.Decides.{nat_tests}
use Rattle.sm_values.specs.declared.identity.Identity.{Identity}
use Rattle.sm_history.specs.declared.service.Service.{Service}
use Rattle.sm_history.specs.Effects.{Effects, Connects, Dies, Adds, Removes}
use Rattle.sm_history.specs.Clients.{is_live, next_client}
use Rattle.sm_history.specs.Services.{service_at, last_said, if_owner_lives, said_or, Silent, Gone, Here}
use Rattle.sm_history.proofs.AfterClients.{live_other, live_dies}
use Rattle.sm_history.specs.Sound.{IsOwned}

said_lives : (d : Effects) (n : ℕ) (who : Identity) (name : List ℕ) (o : Option Service) → n ≡ next_client d
    → IsOwned d → last_said d name ≡ o → if_owner_lives (Connects n who ∷ d) o ≡ if_owner_lives d o
said_lives d n who name None is owned e = refl
said_lives d n who name (Some s) is owned e =
    let lt : s.node.owner.0 < n = rw is (owned name s e) in
    ap (λ (b : Bool). let r : Option Service = if b then Some s else None in r)
    (live_other d n who s.node.owner.0 (grind (arith, nat_tests)))

pub service_connects : (d : Effects) (n : ℕ) (who : Identity) (name : List ℕ) → n ≡ next_client d → IsOwned d
    → service_at (Connects n who ∷ d) name ≡ service_at d name
service_connects d n who name is owned = said_lives d n who name (last_said d name) is owned refl

-- What is left of a service where a client dies.
abbrev pub unless_owned : ℕ → Option Service → Option Service
unless_owned c None = None
unless_owned c (Some s) = if c == s.node.owner.0 then None else Some s

said_dies : (d : Effects) (c : ℕ) (o : Option Service)
    → if_owner_lives (Dies c ∷ d) o ≡ unless_owned c (if_owner_lives d o)
said_dies d c None = refl
said_dies d c (Some s) =
    rw (live_dies d c s.node.owner.0)
    (elim (is_live d s.node.owner.0) as (λ l. (let r : Option Service =
    if l && not (c == s.node.owner.0) then Some s else None in r) ≡ unless_owned c (if l then Some s else None)) [
      | true ↦ elim (c == s.node.owner.0) as (λ t. (let r : Option Service = if not t then Some s else None in r)
          ≡ (if t then None else Some s)) [ true ↦ refl | false ↦ refl ]
      | false ↦ refl
    ])

pub service_dies : (d : Effects) (c : ℕ) (name : List ℕ)
    → service_at (Dies c ∷ d) name ≡ unless_owned c (service_at d name)
service_dies d c name = said_dies d c (last_said d name)

pub service_adds : (d : Effects) (added : List ℕ) (s : Service) (name : List ℕ)
    → service_at (Adds added s ∷ d) name
    ≡ (if bytes_eq added name then if_owner_lives d (Some s) else service_at d name)
service_adds d added s name =
    elim (bytes_eq added name) as (λ b. if_owner_lives d (said_or (if b then Here s else Silent) (last_said d name))
    ≡ (if b then if_owner_lives d (Some s) else service_at d name)) [ true ↦ refl | false ↦ refl ]

pub service_removes : (d : Effects) (removed name : List ℕ)
    → service_at (Removes removed ∷ d) name ≡ (if bytes_eq removed name then None else service_at d name)
service_removes d removed name =
    elim (bytes_eq removed name) as (λ b. if_owner_lives d (said_or (if b then Gone else Silent) (last_said d name))
    ≡ (if b then None else service_at d name)) [ true ↦ refl | false ↦ refl ]
