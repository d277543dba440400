use Rattle.core_disk.proofs.FollowLaws.{follows_words, follows_test}
use Rattle.core_disk.proofs.laws.following_in_words.Goals as goal

pub returns : goal.returns
returns c o e = (follows_words o e, follows_test o e)
