use Rattle.std.proofs.Common.{[], ◌∷◌, vec_items}
use Rattle.codec.specs.Words.{bytes_of}
use Rattle.store.specs.Export.{counted}
use Rattle.store.proofs.ExportLaws.{appends_then}
use Rattle.store.proofs.export.push_file.Goals as goal

pub returns : goal.returns
returns c = appends_then c.push_counted.result (vec_items c.args.out.now) _ _ (bytes_of (c.args.number ∷ [])) (counted c.args.bytes.now) c.in_ok-push_word.ensures c.push_counted.ensures
