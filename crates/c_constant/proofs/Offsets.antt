-- The offset of a structure's member is that of the member of its number.
use Rattle.std.proofs.Common.{◌≡◌, ◌<◌, ◌≤◌, ℕ, zero, suc, List, [], ◌∷◌, length, map, slice_index_or, refl, sym, ap, ◌∙◌, arith}
use Rattle.std.proofs.lemmas.List.{get_or-map, get_or_past, length-map}
use Rattle.c_type.specs.declared.Member as dm
use Rattle.c_type.specs.declared.Tag as dt
use Rattle.c_type.specs.Names.{at_or}
use Rattle.c_type.specs.Of.{member_of, members_of, tag_of}
use Rattle.c_type.specs.Sizes.{no_tag, no_member}
use Rattle.c_type.specs.Types.{Member, Tag, struct}
use Rattle.c_rule.specs.RuleDecls.{member_off}

members_map : (ms : List dm.Member) → members_of ms ≡ map member_of ms
members_map [] = refl
members_map (m ∷ ms) = ap (λ x. member_of m ∷ x) (members_map ms)

-- a member that the code reads
pub member_read : (ms : List dm.Member) (i : ℕ) (m : dm.Member) → i < length ms → m ≡ slice_index_or ms i m → m.off ≡ (at_or no_member (members_of ms) i).off
member_read ms i m lt e =
    ap (λ x. x.off) (ap member_of e ∙ sym (get_or-map member_of ms i m no_member lt)) ∙ ap (λ x. (at_or no_member x i).off) (sym (members_map ms))

pub member_missing : (ms : List dm.Member) (i : ℕ) → length ms ≤ i → (at_or no_member (members_of ms) i).off ≡ 0
member_missing ms i le =
    ap (λ x. (at_or no_member x i).off) (members_map ms) ∙ ap (λ x. x.off) (get_or_past (map member_of ms) i no_member (omega (arith, length-map ms member_of)))

-- the members of a tag, as those of a structure that stands alone
abbrev alone : List Member → List Tag
alone ms = record no_tag { members = ms } ∷ []

off_at : (ms : List Member) (m : ℕ) → member_off (alone ms) (struct 0) m ≡ (at_or no_member ms m).off
off_at [] m = refl
off_at (x ∷ ms) zero = refl
off_at (x ∷ ms) (suc m) = off_at ms m

member_off_at : (ts : List Tag) (k m : ℕ) → member_off ts (struct k) m ≡ (at_or no_member (at_or no_tag ts k).members m).off
member_off_at ts k m = off_at (at_or no_tag ts k).members m

-- the member of a tag that the code reads
pub off_read : (ts : List dt.Tag) (k m : ℕ) (t : dt.Tag) → k < length ts → t ≡ slice_index_or ts k t → (at_or no_member (members_of t.members.items) m).off ≡ member_off (map tag_of ts) (struct k) m
off_read ts k m t lt e =
    ap (λ x. (at_or no_member x.members m).off) (ap tag_of e ∙ sym (get_or-map tag_of ts k t no_tag lt)) ∙ sym (member_off_at (map tag_of ts) k m)
