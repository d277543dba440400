use Rattle.merkle_batch.proofs.HonestLemmas.{honest_opens}
use Rattle.merkle_batch.proofs.laws.an_honest_bundle_opens.Goals as goal

pub returns : goal.returns
returns c accepts log index signature fits less signed = honest_opens log index signature less accepts fits signed
