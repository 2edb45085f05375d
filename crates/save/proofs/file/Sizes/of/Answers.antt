use Rattle.save.proofs.Filed.{counted}
use Rattle.save.proofs.file.Sizes.of.Goals as goal

pub returns : goal.returns
returns c =
    record {
      count = c.strings-count.ensures.count;
      strings = counted _ _ _ _ 0 c.strings-count.ensures.bytes c.new-counter.ensures c.size.ensures;
      payload = counted _ _ _ _ 0 c.payload.ensures c.new-records.ensures c.size-2.ensures;
    }
