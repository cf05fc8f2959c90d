use Rattle.std.proofs.Common.{string_bytes}
use Rattle.text_pages.proofs.Turning.{page_told}
use Rattle.text_pages.proofs.streamed.Streamed.put.Goals as goal

pub returns : goal.returns
returns g c first whole told =
    page_told g.R.Sink.tape first.sink c.args.self.now.sink c.put_all.new.sink (string_bytes c.args.text.now) c.as_bytes.result.now (string_bytes c.clear.new.self) whole told
    c.as_bytes.ensures.value c.in-Ok.ensures.bytes c.in-Ok.ensures.unfailed c.clear.ensures.bytes
