use Rattle.krl.proofs.Words.{Header, IsString, IsU32, IsU64, List, accepted, ap, arith, err_from_is_err_and, lit<}
use Rattle.krl.proofs.Words.{magic, refl, string_text, sym, u32_text, u64_text, ℕ, ◌++◌, ◌∙◌}
use Rattle.krl.specs.declared.krl_fault.KrlFault.TheVariants.{Truncated, BadMagic, BadVersion, BadFlags}
use Rattle.krl.specs.Faults.{refused_unless, is_magic, is_one, is_zero, CommentFault, ReservedFault, FlagsFault}
use Rattle.krl.specs.Faults.{DateFault, NumberFault, VersionFault}
use Rattle.text.proofs.ByteLemmas.{IsBytes_left}
use Rattle.krl.proofs.Texts.{header_fields}
use Rattle.krl.proofs.SectionReading.{more_after, later}
use Rattle.krl.proofs.reader.read_header.Goals as goal

pub returns-in_err-expect_version-clause-fault : goal.returns-in_err-expect_version-clause-fault
returns-in_err-expect_version-clause-fault c =
    let p = err_from_is_err_and c.from_residual-in_err-expect_version.result
    c.from_residual-in_err-expect_version.ensures.1 in
    rw (p.1, p.2) (
    later u64_text IsU64 Truncated (λ n. refused_unless (is_magic n) BadMagic)
    (λ _. VersionFault) magic c.args.cursor.now c.expect_u64.new.cursor _
    (lit< tt) c.in_ok-expect_u64.ensures.found refl (
    more_after u32_text IsU32 Truncated (λ n. refused_unless (is_one n) BadVersion)
    (λ _. NumberFault) c.expect_u64.new.cursor _ c.in_err-expect_version.ensures.fault))

pub returns-in_err-_version-clause-fault : goal.returns-in_err-_version-clause-fault
returns-in_err-_version-clause-fault c =
    let p = err_from_is_err_and c.from_residual-in_err-_version.result c.from_residual-in_err-_version.ensures.1 in
    rw (p.1, p.2) (
    later u64_text IsU64 Truncated (λ n. refused_unless (is_magic n) BadMagic)
    (λ _. VersionFault) magic c.args.cursor.now c.expect_u64.new.cursor _
    (lit< tt) c.in_ok-expect_u64.ensures.found refl (
    later u32_text IsU32 Truncated (λ n. refused_unless (is_one n) BadVersion)
    (λ _. NumberFault) 1 c.expect_u64.new.cursor c.expect_version.new.cursor _
    (lit< tt) c.in_ok-expect_version.ensures.found refl (
    more_after u64_text IsU64 Truncated accepted
    (λ _. DateFault) c.expect_version.new.cursor _ c.in_err-_version.ensures.fault)))

pub returns-in_err-_date-clause-fault : goal.returns-in_err-_date-clause-fault
returns-in_err-_date-clause-fault c =
    let p = err_from_is_err_and c.from_residual-in_err-_date.result c.from_residual-in_err-_date.ensures.1 in
    rw (p.1, p.2) (
    later u64_text IsU64 Truncated (λ n. refused_unless (is_magic n) BadMagic)
    (λ _. VersionFault) magic c.args.cursor.now c.expect_u64.new.cursor _
    (lit< tt) c.in_ok-expect_u64.ensures.found refl (
    later u32_text IsU32 Truncated (λ n. refused_unless (is_one n) BadVersion)
    (λ _. NumberFault) 1 c.expect_u64.new.cursor c.expect_version.new.cursor _
    (lit< tt) c.in_ok-expect_version.ensures.found refl (
    later u64_text IsU64 Truncated accepted
    (λ _. DateFault) c.in_ok-_version._version c.expect_version.new.cursor c.skip_u64.new.cursor _
    (omega arith) c.in_ok-_version.ensures.found refl (
    more_after u64_text IsU64 Truncated accepted
    (λ _. FlagsFault) c.skip_u64.new.cursor _ c.in_err-_date.ensures.fault))))

pub returns-in_err-expect_u64-2-clause-fault : goal.returns-in_err-expect_u64-2-clause-fault
returns-in_err-expect_u64-2-clause-fault c =
    let p = err_from_is_err_and c.from_residual-in_err-expect_u64-2.result
    c.from_residual-in_err-expect_u64-2.ensures.1 in
    rw (p.1, p.2) (
    later u64_text IsU64 Truncated (λ n. refused_unless (is_magic n) BadMagic)
    (λ _. VersionFault) magic c.args.cursor.now c.expect_u64.new.cursor _
    (lit< tt) c.in_ok-expect_u64.ensures.found refl (
    later u32_text IsU32 Truncated (λ n. refused_unless (is_one n) BadVersion)
    (λ _. NumberFault) 1 c.expect_u64.new.cursor c.expect_version.new.cursor _
    (lit< tt) c.in_ok-expect_version.ensures.found refl (
    later u64_text IsU64 Truncated accepted
    (λ _. DateFault) c.in_ok-_version._version c.expect_version.new.cursor c.skip_u64.new.cursor _
    (omega arith) c.in_ok-_version.ensures.found refl (
    later u64_text IsU64 Truncated accepted
    (λ _. FlagsFault) c.in_ok-_date._date c.skip_u64.new.cursor c.skip_u64-2.new.cursor _
    (omega arith) c.in_ok-_date.ensures.found refl (
    more_after u64_text IsU64 Truncated (λ n. refused_unless (is_zero n) BadFlags)
    (λ _. ReservedFault) c.skip_u64-2.new.cursor _ c.in_err-expect_u64-2.ensures.fault)))))

pub returns-in_err-_reserved-clause-fault : goal.returns-in_err-_reserved-clause-fault
returns-in_err-_reserved-clause-fault c =
    let p = err_from_is_err_and c.from_residual-in_err-_reserved.result c.from_residual-in_err-_reserved.ensures.1 in
    rw (p.1, p.2) (
    later u64_text IsU64 Truncated (λ n. refused_unless (is_magic n) BadMagic)
    (λ _. VersionFault) magic c.args.cursor.now c.expect_u64.new.cursor _
    (lit< tt) c.in_ok-expect_u64.ensures.found refl (
    later u32_text IsU32 Truncated (λ n. refused_unless (is_one n) BadVersion)
    (λ _. NumberFault) 1 c.expect_u64.new.cursor c.expect_version.new.cursor _
    (lit< tt) c.in_ok-expect_version.ensures.found refl (
    later u64_text IsU64 Truncated accepted
    (λ _. DateFault) c.in_ok-_version._version c.expect_version.new.cursor c.skip_u64.new.cursor _
    (omega arith) c.in_ok-_version.ensures.found refl (
    later u64_text IsU64 Truncated accepted
    (λ _. FlagsFault) c.in_ok-_date._date c.skip_u64.new.cursor c.skip_u64-2.new.cursor _
    (omega arith) c.in_ok-_date.ensures.found refl (
    later u64_text IsU64 Truncated (λ n. refused_unless (is_zero n) BadFlags)
    (λ _. ReservedFault) 0 c.skip_u64-2.new.cursor c.expect_u64-2.new.cursor _
    (lit< tt) c.in_ok-expect_u64-2.ensures.found refl (
    more_after string_text IsString Truncated accepted
    (λ _. CommentFault) c.expect_u64-2.new.cursor _ c.in_err-_reserved.ensures.fault))))))

pub returns-in_err-_comment-clause-fault : goal.returns-in_err-_comment-clause-fault
returns-in_err-_comment-clause-fault c =
    let p = err_from_is_err_and c.from_residual-in_err-_comment.result c.from_residual-in_err-_comment.ensures.1 in
    rw (p.1, p.2) (
    later u64_text IsU64 Truncated (λ n. refused_unless (is_magic n) BadMagic)
    (λ _. VersionFault) magic c.args.cursor.now c.expect_u64.new.cursor _
    (lit< tt) c.in_ok-expect_u64.ensures.found refl (
    later u32_text IsU32 Truncated (λ n. refused_unless (is_one n) BadVersion)
    (λ _. NumberFault) 1 c.expect_u64.new.cursor c.expect_version.new.cursor _
    (lit< tt) c.in_ok-expect_version.ensures.found refl (
    later u64_text IsU64 Truncated accepted
    (λ _. DateFault) c.in_ok-_version._version c.expect_version.new.cursor c.skip_u64.new.cursor _
    (omega arith) c.in_ok-_version.ensures.found refl (
    later u64_text IsU64 Truncated accepted
    (λ _. FlagsFault) c.in_ok-_date._date c.skip_u64.new.cursor c.skip_u64-2.new.cursor _
    (omega arith) c.in_ok-_date.ensures.found refl (
    later u64_text IsU64 Truncated (λ n. refused_unless (is_zero n) BadFlags)
    (λ _. ReservedFault) 0 c.skip_u64-2.new.cursor c.expect_u64-2.new.cursor _
    (lit< tt) c.in_ok-expect_u64-2.ensures.found refl (
    later string_text IsString Truncated accepted
    (λ _. CommentFault) c.in_ok-_reserved._reserved.now c.expect_u64-2.new.cursor c.skip_string.new.cursor _
    c.in_ok-_reserved.ensures.found.0 c.in_ok-_reserved.ensures.found.1 refl (
    c.in_err-_comment.ensures.fault)))))))

pub skip_string-requires : goal.skip_string-requires
skip_string-requires c =
    let b1 = IsBytes_left c.args.cursor.now
    (u64_text magic) c.expect_u64.new.cursor c.requires c.in_ok-expect_u64.ensures.found in
    let b2 = IsBytes_left c.expect_u64.new.cursor
    (u32_text 1) c.expect_version.new.cursor b1 c.in_ok-expect_version.ensures.found in
    let b3 = IsBytes_left c.expect_version.new.cursor
    (u64_text c.in_ok-_version._version) c.skip_u64.new.cursor b2 c.in_ok-_version.ensures.found in
    let b4 = IsBytes_left c.skip_u64.new.cursor
    (u64_text c.in_ok-_date._date) c.skip_u64-2.new.cursor b3 c.in_ok-_date.ensures.found in
    IsBytes_left c.skip_u64-2.new.cursor (u64_text 0) c.expect_u64-2.new.cursor b4 c.in_ok-expect_u64-2.ensures.found

pub skip_string-requires-2 : goal.skip_string-requires-2
skip_string-requires-2 c =
    let b1 = IsBytes_left c.args.cursor.now
    (u64_text magic) c.expect_u64.new.cursor c.requires c.in_ok-expect_u64.ensures.found in
    let b2 = IsBytes_left c.expect_u64.new.cursor
    (u32_text 1) c.expect_version.new.cursor b1 c.in_ok-expect_version.ensures.found in
    let b3 = IsBytes_left c.expect_version.new.cursor
    (u64_text c.in_ok-_version._version) c.skip_u64.new.cursor b2 c.in_ok-_version.ensures.found in
    let b4 = IsBytes_left c.skip_u64.new.cursor
    (u64_text c.in_ok-_date._date) c.skip_u64-2.new.cursor b3 c.in_ok-_date.ensures.found in
    let b5 = IsBytes_left c.skip_u64-2.new.cursor
    (u64_text 0) c.expect_u64-2.new.cursor b4 c.in_ok-expect_u64-2.ensures.found in
    IsBytes_left c.expect_u64-2.new.cursor
    (string_text c.in_ok-_reserved._reserved.now) c.skip_string.new.cursor b5 c.in_ok-_reserved.ensures.found.1

pub returns-clause-found : goal.returns-clause-found
returns-clause-found c =
    let h : Header = record {
      version = c.in_ok-_version._version;
      date = c.in_ok-_date._date;
      reserved =
          c.in_ok-_reserved._reserved.now;
      comment = c.in_ok-_comment._comment.now;
    } in (
      h,
      (omega arith, omega arith, c.in_ok-_reserved.ensures.found.0, c.in_ok-_comment.ensures.found.0),
      c.in_ok-expect_u64.ensures.found
          ∙ ap (λ (t : List ℕ). u64_text magic ++ t) (c.in_ok-expect_version.ensures.found
          ∙ ap (λ (t : List ℕ). u32_text 1 ++ t) (c.in_ok-_version.ensures.found
          ∙ ap (λ (t : List ℕ). u64_text h.version ++ t) (c.in_ok-_date.ensures.found
          ∙ ap (λ (t : List ℕ). u64_text h.date ++ t) (c.in_ok-expect_u64-2.ensures.found
          ∙ ap (λ (t : List ℕ). u64_text 0 ++ t) (c.in_ok-_reserved.ensures.found.1
          ∙ ap (λ (t : List ℕ). string_text h.reserved ++ t) c.in_ok-_comment.ensures.found.1)))))
          ∙ sym (header_fields h c.skip_string-2.new.cursor),
    )
