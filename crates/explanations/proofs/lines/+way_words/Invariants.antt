use Rattle.std.proofs.Common.{length}
use Rattle.explanations.proofs.lines.+way_words.Given as goal

abbrev pub decreases-way_words : goal.decreases-way_words
decreases-way_words l = length l.way.now
