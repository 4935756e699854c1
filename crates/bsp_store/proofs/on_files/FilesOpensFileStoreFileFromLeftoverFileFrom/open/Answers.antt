use Rattle.sqlite_wal.specs.Files.{image_at}
use Rattle.bsp_store.proofs.FoundLemmas.{just_opened}
use Rattle.bsp_store.proofs.on_files.FilesOpensFileStoreFileFromLeftoverFileFrom.open.Goals as goal

pub returns-in-Ok-clause-opened : goal.returns-in-Ok-clause-opened
returns-in-Ok-clause-opened g c = just_opened (image_at g.T.Start) c.in-Ok.conn c.in-Ok.ensures.fresh c.in-Ok.ensures.opened c.in-Ok.ensures.found
