-- The first line feed, or none.
use Rattle.candump_log.proofs.LineFeeds.{feed_found}
use Rattle.candump_log.proofs.reader.feed_place.Goals as goal

pub returns : goal.returns
returns c = feed_found _ _ c.memchr.ensures
