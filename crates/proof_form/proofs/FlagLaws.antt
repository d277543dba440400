-- Flags and the parts that they name.
use Rattle.std.proofs.Common.{◌≡◌, ℕ, ◌*◌, ◌/◌, ◌%◌, ◌≤◌, Option, None, Some, refl, arith}
use Rattle.std.specs.Prelude.{is_some}
use Rattle.std.proofs.lemmas.Bool.{eqb-true, eqb-false}
use Rattle.proof_form.specs.declared.flags.TheConstants.{BLOCK, HASH, SEEK, UPGRADE, ALL_PARTS}
use Rattle.proof_form.specs.Flags.{has_flag, flag_if, flags_of}

-- they name the parts that are there
pub record Name {A B C D : Type 0} (flags : ℕ) (b : Option A) (h : Option B) (s : Option C) (u : Option D) : Type 0 where
  pub block : has_flag BLOCK flags ≡ is_some b
  pub hash : has_flag HASH flags ≡ is_some h
  pub seek : has_flag SEEK flags ≡ is_some s
  pub upgrade : has_flag UPGRADE flags ≡ is_some u

pub flags_name : {A B C D : Type 0} (b : Option A) (h : Option B) (s : Option C) (u : Option D) → Name (flags_of b h s u) b h s u
flags_name None None None None = record { block = refl; hash = refl; seek = refl; upgrade = refl }
flags_name None None None (Some u) = record { block = refl; hash = refl; seek = refl; upgrade = refl }
flags_name None None (Some s) None = record { block = refl; hash = refl; seek = refl; upgrade = refl }
flags_name None None (Some s) (Some u) = record { block = refl; hash = refl; seek = refl; upgrade = refl }
flags_name None (Some h) None None = record { block = refl; hash = refl; seek = refl; upgrade = refl }
flags_name None (Some h) None (Some u) = record { block = refl; hash = refl; seek = refl; upgrade = refl }
flags_name None (Some h) (Some s) None = record { block = refl; hash = refl; seek = refl; upgrade = refl }
flags_name None (Some h) (Some s) (Some u) = record { block = refl; hash = refl; seek = refl; upgrade = refl }
flags_name (Some b) None None None = record { block = refl; hash = refl; seek = refl; upgrade = refl }
flags_name (Some b) None None (Some u) = record { block = refl; hash = refl; seek = refl; upgrade = refl }
flags_name (Some b) None (Some s) None = record { block = refl; hash = refl; seek = refl; upgrade = refl }
flags_name (Some b) None (Some s) (Some u) = record { block = refl; hash = refl; seek = refl; upgrade = refl }
flags_name (Some b) (Some h) None None = record { block = refl; hash = refl; seek = refl; upgrade = refl }
flags_name (Some b) (Some h) None (Some u) = record { block = refl; hash = refl; seek = refl; upgrade = refl }
flags_name (Some b) (Some h) (Some s) None = record { block = refl; hash = refl; seek = refl; upgrade = refl }
flags_name (Some b) (Some h) (Some s) (Some u) = record { block = refl; hash = refl; seek = refl; upgrade = refl }

-- a part's flag is its digit
digit : {A : Type 0} (flag n : ℕ) (part : Option A) → has_flag flag n ≡ is_some part → flag_if flag (is_some part) ≡ flag * (n / flag % 2)
digit flag n None is =
    let other : n / flag % 2 ≡ 0 = omega (arith, eqb-false _ _ is) in
    rw other (omega arith)
digit flag n (Some part) is =
    let one : n / flag % 2 ≡ 1 = eqb-true _ _ is in
    rw one (omega arith)

-- and no other flags name these parts
pub named_flags : {A B C D : Type 0} (n : ℕ) (b : Option A) (h : Option B) (s : Option C) (u : Option D) → n ≤ ALL_PARTS → Name n b h s u → flags_of b h s u ≡ n
named_flags n b h s u small name =
    omega (arith, digit BLOCK n b name.block, digit HASH n h name.hash, digit SEEK n s name.seek, digit UPGRADE n u name.upgrade)

most : {A : Type 0} (flag : ℕ) (part : Option A) → flag_if flag (is_some part) ≤ flag
most flag None = omega arith
most flag (Some part) = omega arith

pub few_flags : {A B C D : Type 0} (b : Option A) (h : Option B) (s : Option C) (u : Option D) → flags_of b h s u ≤ ALL_PARTS
few_flags b h s u = omega (arith, most BLOCK b, most HASH h, most SEEK s, most UPGRADE u)
