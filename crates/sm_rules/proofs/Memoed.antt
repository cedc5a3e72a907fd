-- What is kept holds of equal sets and rules.
use Rattle.std.proofs.Common.{◌≡◌, ℕ, Bool, List, [], ◌∷◌, ◌++◌, refl, ◌∙◌}
use Rattle.std.proofs.lemmas.List.Elements.{All-push}
use Rattle.sm_values.specs.declared.class.Class.{Class}
use Rattle.sm_values.specs.declared.perms.Perms.{Perms}
use Rattle.sm_ruletext.specs.Items.{Set, SameItems}
use Rattle.sm_ruletext.specs.Sets.{selects}
use Rattle.sm_ruletext.specs.declared.rule.Rule.{Rule}
use Rattle.sm_types.specs.Names.{Name, at}
use Rattle.sm_types.specs.Denoting.{Policy, chosen}
use Rattle.sm_types.specs.declared.table.Table.{Table}
use Rattle.sm_rules.specs.Access.{gives}
use Rattle.sm_rules.specs.Faults.{is_open, applies, perms_known}
use Rattle.sm_rules.specs.Keeping.{class_at, perm_at}
use Rattle.sm_rules.specs.Memoed.{Denotes, Grants, IsExpanded, IsGranted, Memoed, IsRight}
use Rattle.sm_rules.specs.declared.memo.Expanded.{Expanded}
use Rattle.sm_rules.specs.declared.memo.Granted.{Granted}

same_chosen : (policy : Policy) (a b : Set) (t : Name) → SameItems a b → chosen policy a t ≡ chosen policy b t
unfolding chosen
same_chosen policy a b t s = rw (s.all, s.complement, s.plus, s.minus) refl

-- An equal set denotes the same types.
pub denotes_same : (table : Table) (a b : Set) (row : List ℕ) → SameItems a b → Denotes table a row → Denotes table b row
denotes_same table a b row s d = record {
  room = d.room;
  denoted = λ policy of i h. rw (← same_chosen policy a b (at table.symbols.types i) s) (d.denoted policy of i h);
  past = d.past;
  known = λ policy of. rw (← s.plus, ← s.minus) (d.known policy of);
}

same_selects : (a b : Set) (name : List ℕ) → SameItems a b → selects a name ≡ selects b name
unfolding selects
same_selects a b name s = rw (s.all, s.complement, s.plus, s.minus) refl

same_known : (q r : Rule) → SameItems q.class r.class → SameItems q.perm r.perm → perms_known q ≡ perms_known r
unfolding perms_known is_open applies selects
same_known q r c p =
    rw (c.all, c.complement, c.plus, c.minus, p.plus, p.minus) refl

same_gives : (q r : Rule) (class : Class) (perm : Perms) → SameItems q.class r.class → SameItems q.perm r.perm
    → gives class perm q ≡ gives class perm r
unfolding gives selects
same_gives q r class perm c p =
    rw (c.all, c.complement, c.plus, c.minus, p.all, p.complement, p.plus, p.minus) refl

-- An equal rule grants the same.
pub grants_same : (q r : Rule) (known : Bool) (perms : Perms) → SameItems q.class r.class → SameItems q.perm r.perm
    → Grants q known perms → Grants r known perms
grants_same q r known perms c p g = record {
  is = g.is ∙ same_known q r c p;
  given = λ b h. g.given b h ∙ same_gives q r (class_at b) (perm_at b) c p;
  other = g.other;
}

-- One more is kept.
pub expanded_more : (table : Table) (old new : Memoed) (kept : Expanded) → IsRight table old
    → Denotes table kept.set kept.row → new.sets ≡ old.sets ++ kept ∷ [] → new.grants ≡ old.grants → IsRight table new
expanded_more table old new kept right d s g = record {
  sets = rw s (All-push (IsExpanded table) old.sets kept right.sets (record {
    says = λ set same. denotes_same table kept.set set kept.row same d;
  }));
  grants = rw g right.grants;
}

pub granted_more : (table : Table) (old new : Memoed) (kept : Granted) (rule : Rule) → IsRight table old
    → kept.class ≡ rule.class → kept.perm ≡ rule.perm → Grants rule kept.known kept.perms
    → new.sets ≡ old.sets → new.grants ≡ old.grants ++ kept ∷ [] → IsRight table new
granted_more table old new kept rule right c p d s g = record {
  sets = rw s right.sets;
  grants = rw g (All-push IsGranted old.grants kept right.grants (record {
    says = λ other sc sp. grants_same rule other kept.known kept.perms (rw c at sc) (rw p at sp) d;
  }));
}
