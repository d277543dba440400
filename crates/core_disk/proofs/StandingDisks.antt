-- A disk that stands for a content, as it reads and after each crash.
use Rattle.std.proofs.Common.{◌≡◌, ℕ, Bool, true, List, sym, ◌∙◌, subst, arith}
use mathlib.Core.Path.{fun_ext}
use Rattle.disk_trait.specs.Disk.{DiskView, Keeps, MayStay}
use Rattle.oplog_file.specs.Writers.{Place}
use Rattle.node_set.specs.Contents.{Content}
use Rattle.core_state.specs.Handing.{SameDisk}
use Rattle.core_disk.specs.Areas.{Areas}
use Rattle.core_disk.specs.Standing.{StandsFor}
use Rattle.core_disk.specs.Firm.{IsFirmFor, StandsFirmly}
use Rattle.core_disk.proofs.FirmLaws.{firm_stands}

-- a disk that is honest and firm for it does
pub firmly : (accepts : List ℕ → List ℕ → Bool) (id : List ℕ) (disk : DiskView) (place : Place) (m : Content)
    → disk.honest ≡ true → MayStay disk → IsFirmFor accepts id disk place m → StandsFirmly accepts id disk m
firmly accepts id disk place m honest stays firm = record {
  honest = honest;
  reads = firm_stands accepts id disk place m firm disk.reads stays;
  images = firm_stands accepts id disk place m firm;
}

-- a disk as it was does as before
module _ (accepts : List ℕ → List ℕ → Bool) (id : List ℕ) (old new : DiskView) (m : Content) (same : SameDisk old new) where
  pub same_reads : StandsFor accepts id old.reads m → StandsFor accepts id new.reads m
  same_reads stands = subst (λ (areas : Areas). StandsFor accepts id areas m) (sym (fun_ext same.reads)) stands

  pub same_firmly : StandsFirmly accepts id old m → StandsFirmly accepts id new m
  same_firmly stands = record {
    honest = same.honest ∙ stands.honest;
    reads = same_reads stands.reads;
    images = λ areas image.
        stands.images areas
        (λ area. subst (λ (t : ℕ). old.image t area (areas area)) same.moment ((same.images new.moment area (areas area)).0 (image area)));
  }

-- so does one of which nothing was touched
pub kept_firmly : (accepts : List ℕ → List ℕ → Bool) (id : List ℕ) (old new : DiskView) (m : Content) → new.honest ≡ old.honest → Keeps old new
    → StandsFirmly accepts id old m → StandsFirmly accepts id new m
kept_firmly accepts id old new m honest keeps stands = record {
  honest = honest ∙ stands.honest;
  reads = subst (λ (areas : Areas). StandsFor accepts id areas m) (sym (fun_ext (λ area. (keeps.each area).reads))) stands.reads;
  images = λ areas image. stands.images areas (λ area. (keeps.each area).images new.moment (areas area) keeps.time.later (omega arith) (image area));
}
