use Rattle.std.proofs.Common.{refl}
use Rattle.blake2b_hash.proofs.Rounds.{rounds-zero, rounds-suc}
use Rattle.blake2b_hash.proofs.compress.all_rounds.Goals as goal

pub returns : goal.returns
returns c =
    let v = c.args.v in
    let m = c.args.m in
    let s1 = rounds-suc 0 v m v _ _ (rounds-zero v m) refl c.one_round-v.ensures in
    let s2 = rounds-suc 1 v m _ _ _ s1 refl c.one_round-v-2.ensures in
    let s3 = rounds-suc 2 v m _ _ _ s2 refl c.one_round-v-3.ensures in
    let s4 = rounds-suc 3 v m _ _ _ s3 refl c.one_round-v-4.ensures in
    let s5 = rounds-suc 4 v m _ _ _ s4 refl c.one_round-v-5.ensures in
    let s6 = rounds-suc 5 v m _ _ _ s5 refl c.one_round-v-6.ensures in
    let s7 = rounds-suc 6 v m _ _ _ s6 refl c.one_round-v-7.ensures in
    let s8 = rounds-suc 7 v m _ _ _ s7 refl c.one_round-v-8.ensures in
    let s9 = rounds-suc 8 v m _ _ _ s8 refl c.one_round-v-9.ensures in
    let s10 = rounds-suc 9 v m _ _ _ s9 refl c.one_round-v-10.ensures in
    let s11 = rounds-suc 10 v m _ _ _ s10 refl c.one_round-v-11.ensures in
    rounds-suc 11 v m _ _ _ s11 refl c.one_round.ensures
