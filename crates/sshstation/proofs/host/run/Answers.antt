use Rattle.std.proofs.Common.{map, sym}
use Rattle.std.specs.Prelude.{string_bytes}
use Rattle.sqlite_wal.specs.Files.{image_at}
use Rattle.sshstation.proofs.Lived.{words_lived}
use Rattle.sshstation.proofs.ListsLived.{words_listed}
use Rattle.sshstation.proofs.Kept.{closes_have, ends_honest, found_stores, given_up_have, made_stores}
use Rattle.sshstation.proofs.host.run.Goals as goal

pub do_words-status-requires-clause-keeps : goal.do_words-status-requires-clause-keeps
do_words-status-requires-clause-keeps g c = record {
  opens = λ db db' path guard opens clean s held. found_stores (image_at g.S.Start) guard opens.0 clean s held;
  makes = λ db db' path scope guard makes clean blank.
      made_stores (image_at g.S.Start) scope guard makes.0 clean blank;
  honest = λ db db' guard r closes settled. ends_honest guard r db'.files closes settled;
  closes = λ db db' guard closes settled s keeps. closes_have guard db'.files closes settled s keeps;
  gives_up = λ db db' guard e closes settled s t keeps leaves.
      given_up_have guard e db'.files closes settled s t keeps leaves;
}

pub returns-clause-runs : goal.returns-clause-runs
returns-clause-runs g c = record {
  before = c.new-db.result;
  after = _;
  lists_before = c.new-lists.result;
  lists_after = _;
  is_new = c.new-db.ensures;
  are_new = c.new-lists.ensures;
  is_left = sym c.into_files-guard_files.ensures;
  are_left = sym c.into_files-list_files.ensures;
  does = c.do_words-status.ensures.does;
  lived = words_lived _ _ _ (image_at g.S.Start) _ _ _ (λ db. db.files)
      (record {
        opens = λ db after path found opens. (opens.0, opens.1);
        makes = λ db after path scope found makes. (makes.0, makes.1);
        closes = λ db after it r closes. closes;
        held = λ s held. held;
        blank = λ blank. blank;
        settles = λ db it settled. settled;
        has = λ db it s has. has;
        has_one = λ db it s t has. has;
        honest = λ it clean. clean;
        is_clean = λ it honest. honest;
      }) _ _ c.new-db.ensures _ _ _ _ _ _ _ (map string_bytes c.args.words.now) _ _ _ _ _ _
      c.into_files-guard_files.ensures c.do_words-status.ensures.does;
  listed = words_listed _ _ _ (image_at g.T.Start) _ _ _ (λ db. db.files)
      (record {
        opens = λ db after path found opens. (opens.0, opens.1);
        makes = λ db after path found makes. (makes.0, makes.1);
        closes = λ db after it r closes. closes;
        stores = λ it s keeps leaves. (keeps, leaves);
        keeps = λ it s keeps. keeps.1;
        leaves = λ it s t leaves. leaves;
        honest = λ it clean. clean;
        is_clean = λ it honest. honest;
      }) _ _ c.new-lists.ensures _ _ _ _ _ _ _ (map string_bytes c.args.words.now) _ _ _ _ _ _
      c.into_files-list_files.ensures c.do_words-status.ensures.does;
}
