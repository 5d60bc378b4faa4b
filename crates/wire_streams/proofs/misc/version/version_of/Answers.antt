use Rattle.wire_streams.proofs.VersionLemmas.{cut_twice, slice_split-whole, slice_split-cut, no_version-one, no_version-two, version_from, version_parts}
use Rattle.wire_streams.proofs.misc.version.version_of.Goals as goal

pub returns-in_err-first : goal.returns-in_err-first
returns-in_err-first c =
    let text = c.args.text.now in
    rw c.from_residual.ensures (λ v.
    no_version-one text v (slice_split-whole text c.in_err-first.ensures))

pub returns-in_err-second : goal.returns-in_err-second
returns-in_err-second c =
    let text = c.args.text.now in
    let first = c.in_ok-first.first.now in
    let rest = c.in_ok-first.rest.now in
    let cut = c.in_ok-first.ensures in
    rw c.from_residual-in_err-second.ensures
    (λ v. no_version-two text first rest v (slice_split-cut text first rest cut.0 cut.1 cut.2)
    (slice_split-whole rest c.in_err-second.ensures))

pub returns-in_err-signed_part : goal.returns-in_err-signed_part
returns-in_err-signed_part c =
    let text = c.args.text.now in
    let first = c.in_ok-first.first.now in
    let second = c.in_ok-second.second.now in
    let third = c.in_ok-second.third.now in
    let cut = cut_twice text first c.in_ok-first.rest.now second third c.in_ok-first.ensures
    c.in_ok-second.ensures in
    rw c.from_residual-in_err-signed_part.ensures
    (λ v is. c.in_err-signed_part.ensures v.0
    (version_parts text first second third v cut is).0)

pub returns-in_err-signed_part-2 : goal.returns-in_err-signed_part-2
returns-in_err-signed_part-2 c =
    let text = c.args.text.now in
    let first = c.in_ok-first.first.now in
    let second = c.in_ok-second.second.now in
    let third = c.in_ok-second.third.now in
    let cut = cut_twice text first c.in_ok-first.rest.now second third c.in_ok-first.ensures
    c.in_ok-second.ensures in
    rw c.from_residual-in_err-signed_part-2.ensures
    (λ v is. c.in_err-signed_part-2.ensures v.1
    (version_parts text first second third v cut is).1)

pub returns-in_err-front_part : goal.returns-in_err-front_part
returns-in_err-front_part c =
    let text = c.args.text.now in
    let first = c.in_ok-first.first.now in
    let second = c.in_ok-second.second.now in
    let third = c.in_ok-second.third.now in
    let cut = cut_twice text first c.in_ok-first.rest.now second third c.in_ok-first.ensures
    c.in_ok-second.ensures in
    rw c.from_residual-in_err-front_part.ensures
    (λ v is. c.in_err-front_part.ensures v.2 (version_parts text first second third v cut is).2)

pub returns : goal.returns
returns c =
    let text = c.args.text.now in
    let first = c.in_ok-first.first.now in
    let second = c.in_ok-second.second.now in
    let third = c.in_ok-second.third.now in
    let cut = cut_twice text first c.in_ok-first.rest.now second third c.in_ok-first.ensures
    c.in_ok-second.ensures in
    version_from text first second third _ _ _ cut c.in_ok-signed_part.ensures
    c.in_ok-signed_part-2.ensures c.in_ok-front_part.ensures
