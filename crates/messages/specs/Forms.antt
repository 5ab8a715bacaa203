-- What a file is that is not an image or not a frame stream, and what makes one from it.
use Rattle.std.specs.Prelude.{◌≡◌, ◌⊎◌, ℕ, ◌==◌, min, nat_le, nat_lt, Bool, ◌&&◌, ◌||◌, not, List, [], ◌∷◌, length, take, bytes_eq, codes, if◌then◌else◌}
use Rattle.std.specs.List.{list_all}
use Rattle.messages.specs.declared.forms.FileForm.{FileForm}
use Rattle.messages.specs.declared.forms.FileForm.TheVariants.{Unknown, Short, Elf, Gzip, Zstd, Pcap, Pcapng, UnreadCapture, Image, Frames, Table, Text}

-- the first four bytes, or fewer
abbrev pub front_of : List ℕ → List ℕ
front_of bs = take (min (length bs) 4) bs

-- a line feed, a tab, or a printable character of ASCII
abbrev pub is_text_byte : ℕ → Bool
is_text_byte b = (b == 10) || (b == 9) || (nat_le 32 b && nat_lt b 127)

-- fewer than four bytes, ELF, pcap in two byte orders with microseconds and with nanoseconds,
-- pcapng, images, frame streams, proof tables, gzip without and with a name, zstd, text
abbrev pub file_form_by : List ℕ → FileForm
file_form_by front =
    if nat_lt (length front) 4 then Short
    else if bytes_eq front (127 ∷ 69 ∷ 76 ∷ 70 ∷ []) then Elf
    else if bytes_eq front (212 ∷ 195 ∷ 178 ∷ 161 ∷ [])
    || bytes_eq front (161 ∷ 178 ∷ 195 ∷ 212 ∷ []) then Pcap
    else if bytes_eq front (77 ∷ 60 ∷ 178 ∷ 161 ∷ []) || bytes_eq front (161 ∷ 178 ∷ 60 ∷ 77 ∷ [])
    then Pcap
    else if bytes_eq front (10 ∷ 13 ∷ 13 ∷ 10 ∷ []) then Pcapng
    else if bytes_eq front (codes "XBP1") || bytes_eq front (codes "XBP2") then Image
    else if bytes_eq front (codes "XPF1") || bytes_eq front (codes "XPF2") then Frames
    else if bytes_eq front (codes "XPT1") then Table
    else if bytes_eq front (31 ∷ 139 ∷ 8 ∷ 0 ∷ []) || bytes_eq front (31 ∷ 139 ∷ 8 ∷ 8 ∷ [])
    then Gzip
    else if bytes_eq front (40 ∷ 181 ∷ 47 ∷ 253 ∷ []) then Zstd
    else if list_all is_text_byte front && not (bytes_eq front (codes "XBP3")) then Text
    else Unknown

-- what a file with these bytes is
unfoldable pub file_form_of : List ℕ → FileForm
file_form_of bs = file_form_by (front_of bs)

-- the file form of these bytes, or unknown
abbrev pub IsFileFormOf : List ℕ → FileForm → Type 0
IsFileFormOf bytes form = (form ≡ Unknown) ⊎ (form ≡ file_form_of bytes)

-- what the file is and what makes an image from it, in a line
abbrev pub file_line : FileForm → List ℕ
file_line Unknown = codes "an image is made of a text by xdpvm asm, of an ELF object by image.py\n"
file_line Short = codes "it has fewer than 4 bytes\n"
file_line Elf = codes "it is an ELF object: image.py makes an image of it\n"
file_line Gzip = codes "it is packed by gzip: gunzip unpacks it\n"
file_line Zstd = codes "it is packed by zstd: unzstd unpacks it\n"
file_line Pcap = codes "it is a capture (pcap): xdpvm_filter convert makes a stream of it\n"
file_line Pcapng = codes "it is a capture (pcapng): xdpvm_filter convert makes a stream of it\n"
file_line UnreadCapture = codes "it is a capture\n"
file_line Image = codes "it is an image\n"
file_line Frames = codes "it is a frame stream: the image stands before it, as in xdpvm run\n"
file_line Table = codes "it is a proof table: the image stands before it, as in xdpvm recheck\n"
file_line Text = codes "it looks like a text: xdpvm asm makes an image of it\n"

-- the end of a line, and then a line that says what the file is and what makes a frame stream from
-- it
abbrev pub stream_line : FileForm → List ℕ
stream_line Unknown = codes "\nxdpvm_filter convert makes a stream of a capture (pcap, pcapng)\n"
stream_line Short = codes "\nit has fewer than 4 bytes\n"
stream_line Elf = codes "\nit is an ELF object: image.py makes an image of it, not frames\n"
stream_line Gzip =
    codes "\nit is packed by gzip: gunzip unpacks it\n"
stream_line Zstd = codes "\nit is packed by zstd: unzstd unpacks it\n"
stream_line Pcap = codes "\nit is a capture (pcap): xdpvm_filter convert makes a stream of it\n"
stream_line Pcapng = codes "\nit is a capture (pcapng): xdpvm_filter convert makes a stream of it\n"
stream_line UnreadCapture =
    codes "\nit is a capture that is cut in its head, or of another link type than Ethernet (1), Linux cooked (113, 276), raw IP (101) and loopback (0, 108): capinfos names it\n"
stream_line Image = codes "\nit is an image: it stands before the frames, as in xdpvm run\n"
stream_line Frames = codes "\nxdpvm_filter convert makes a stream of a capture (pcap, pcapng)\n"
stream_line Table = codes "\nit is a proof table: it stands after --table, as in xdpvm run\n"
stream_line Text = codes "\nit looks like a text: frames.py makes a stream of a text of frames\n"
