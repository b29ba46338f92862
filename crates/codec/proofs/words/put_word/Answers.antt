use Rattle.std.proofs.Common.{◌≡◌, ◌*◌, arith}
use Rattle.codec.specs.Words.{bytes_le}
use Rattle.codec.proofs.WordLaws.{put_mid-put_at, bytes_eight}
use Rattle.codec.proofs.words.put_word.Goals as goal

pub returns : goal.returns
returns c =
    let word = c.args.word in
    let written : c.copy_from_slice.new.self ≡ bytes_le 8 word = cc (bytes_eight word) in
    put_mid-put_at (8 * c.args.k) _ c.args.out.now (bytes_le 8 word) _ written (omega arith)
