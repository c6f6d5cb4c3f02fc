use Rattle.story_format.specs.Contents.{contents_meant}
use Rattle.story_file.proofs.Compiled.{are_of, compiled_by, is_held, refused_by, unheld_by}
use Rattle.story_file.proofs.compiler.compile.Goals as goal

pub returns-in-Err : goal.returns-in-Err
returns-in-Err c = refused_by c.args.source.now c.in_ok-sentences.sentences.items c.as_slice-sentences.result.now c.in_ok-sentences.ensures.said c.as_slice-sentences.ensures.value c.in-Err.fault c.in-Err.ensures.refused

pub write-requires-clause-held : goal.write-requires-clause-held
write-requires-clause-held c =
    let meant = c.in-Ok.meant in
    is_held c.args.source.now c.in_ok-sentences.sentences.items c.as_slice-sentences.result.now c.in_ok-sentences.ensures.said c.as_slice-sentences.ensures.value meant.tale (contents_meant meant.contents) c.in-Ok.ensures.meant

pub write-requires-clause-are_of : goal.write-requires-clause-are_of
write-requires-clause-are_of c =
    let meant = c.in-Ok.meant in
    are_of c.args.source.now c.in_ok-sentences.sentences.items c.as_slice-sentences.result.now c.in_ok-sentences.ensures.said c.as_slice-sentences.ensures.value meant.tale (contents_meant meant.contents) c.in-Ok.ensures.meant

pub fault_told-requires-clause-held : goal.fault_told-requires-clause-held
fault_told-requires-clause-held c =
    let meant = c.in-Ok.meant in
    is_held c.args.source.now c.in_ok-sentences.sentences.items c.as_slice-sentences.result.now c.in_ok-sentences.ensures.said c.as_slice-sentences.ensures.value meant.tale (contents_meant meant.contents) c.in-Ok.ensures.meant

pub fault_told-requires-clause-are_of : goal.fault_told-requires-clause-are_of
fault_told-requires-clause-are_of c =
    let meant = c.in-Ok.meant in
    are_of c.args.source.now c.in_ok-sentences.sentences.items c.as_slice-sentences.result.now c.in_ok-sentences.ensures.said c.as_slice-sentences.ensures.value meant.tale (contents_meant meant.contents) c.in-Ok.ensures.meant

pub returns-in-Ok-write : goal.returns-in-Ok-write
returns-in-Ok-write c =
    let meant = c.in-Ok.meant in
    compiled_by c.args.source.now c.in_ok-sentences.sentences.items c.as_slice-sentences.result.now c.in_ok-sentences.ensures.said c.as_slice-sentences.ensures.value meant.tale (contents_meant meant.contents) c.in-Ok.ensures.meant
    c.in-Ok-write.bytes.items c.in-Ok-write.ensures.said c.in-Ok-write.ensures.spelled

pub returns : goal.returns
returns c =
    let meant = c.in-Ok.meant in
    unheld_by c.args.source.now c.in_ok-sentences.sentences.items c.as_slice-sentences.result.now c.in_ok-sentences.ensures.said c.as_slice-sentences.ensures.value meant.tale (contents_meant meant.contents) c.in-Ok.ensures.meant
    c.in-Err-write.fault c.fault_told.result c.in-Err-write.ensures.none c.fault_told.ensures
