-- Why a frame stream ended early, and a hint.
use Rattle.std.specs.Prelude.{ℕ, List, ◌++◌, codes}
use Rattle.isa_model.specs.declared.streams.Fault.{Fault}
use Rattle.isa_model.specs.declared.streams.Fault.TheVariants.{BadMagic, TruncatedHead, TooLong, TruncatedBody, ReadFailed, TooManyRecords}
use Rattle.isa_model.specs.Reporting.Messages as streams
use Rattle.messages.specs.declared.forms.FileForm.{FileForm}
use Rattle.messages.specs.declared.forms.FileForm.TheVariants as form
use Rattle.messages.specs.Forms.{stream_line}

-- why a frame stream ended early; a capture that becomes one has no frame that is too long, but a
-- record that is none
abbrev pub fault_sentence : Fault → FileForm → List ℕ
fault_sentence TooLong form.Pcap =
    codes "the capture is damaged: a packet has more than 262144 bytes"
fault_sentence TooLong form.Pcapng =
    codes "the capture is damaged: the lengths of a block do not agree or are over 4194304, or the interface of a packet is not described or has another link type"
fault_sentence fault other = streams.sentence_of fault

-- the end of the line, and then a hint, where a frame is too long
abbrev pub long_hint : FileForm → List ℕ
long_hint form.Pcap = codes "\nthe packets before it were read: make the capture again\n"
long_hint form.Pcapng = codes "\nthe packets before it were read: make the capture again\n"
long_hint other = codes "\nshorten the frame, or make a stream of XPF2 by xdpvm_filter convert --reasons\n"

-- the end of the line with the sentence, and then a line with a hint
abbrev pub fault_hint : Fault → FileForm → List ℕ
fault_hint BadMagic form = stream_line form
fault_hint TruncatedHead form = codes "\nthe file was cut: make it again\n"
fault_hint TooLong form = long_hint form
fault_hint TruncatedBody form = codes "\nthe file was cut: make it again\n"
fault_hint ReadFailed form = codes "\nsee that it is a file, and that the disk is sound\n"
fault_hint TooManyRecords form = codes "\nsplit the stream\n"

-- what the frames out hold, if the stream's magic is wrong
abbrev pub fault_rest : Fault → List ℕ
fault_rest BadMagic = codes "the frames out are a magic alone\n"
fault_rest fault = codes ""

abbrev pub fault_lines : Fault → FileForm → List ℕ
fault_lines fault form = fault_sentence fault form ++ (fault_hint fault form ++ fault_rest fault)
