-- Why a file or an output failed, as text.
use Rattle.std.specs.Prelude.{ℕ, List, ◌++◌, Option, Some, None, codes}
use Rattle.std.specs.declared.io.ErrorKind.{ErrorKind}
use Rattle.messages.specs.declared.causes.Conflict.{Conflict}
use Rattle.messages.specs.declared.causes.Conflict.TheVariants.{IsRead, IsStandardOutput, IsWritten, IsDash}
use Rattle.messages.specs.Names.{shown_name, dash_line}
use Rattle.std.specs.declared.io.ErrorKind.TheVariants.{NotFound, PermissionDenied, IsADirectory, NotADirectory, AlreadyExists, ReadOnlyFilesystem, FilesystemLoop, InvalidFilename, InvalidInput, StorageFull, QuotaExceeded, FileTooLarge, ResourceBusy, ExecutableFileBusy, BrokenPipe, WriteZero, Interrupted, WouldBlock, TimedOut, Unsupported, OutOfMemory}

-- the end of a line that names a file, and then a line with the cause
abbrev pub cause_line : ErrorKind → List ℕ
cause_line NotFound = codes "\nno such file or folder\n"
cause_line PermissionDenied = codes "\npermission denied\n"
cause_line IsADirectory = codes "\nit is a folder\n"
cause_line NotADirectory = codes "\na part of the path is not a folder\n"
cause_line AlreadyExists = codes "\nit already exists\n"
cause_line ReadOnlyFilesystem = codes "\nthe file system is read-only\n"
cause_line FilesystemLoop = codes "\nthe path has a loop of links\n"
cause_line InvalidFilename = codes "\nthe name is not valid\n"
cause_line InvalidInput = codes "\nthe path or the request is not valid\n"
cause_line StorageFull = codes "\nno space is left\n"
cause_line QuotaExceeded = codes "\nthe quota is used up\n"
cause_line FileTooLarge = codes "\nthe file is too large\n"
cause_line ResourceBusy = codes "\nit is in use\n"
cause_line ExecutableFileBusy = codes "\nit is a running program\n"
cause_line BrokenPipe = codes "\nits reader has closed it\n"
cause_line WriteZero = codes "\nno byte was written\n"
cause_line Interrupted = codes "\nthe call was interrupted\n"
cause_line WouldBlock = codes "\nthe call would block\n"
cause_line TimedOut = codes "\nit timed out\n"
cause_line Unsupported = codes "\nthe operation is not supported\n"
cause_line OutOfMemory = codes "\nout of memory\n"
cause_line kind = codes "\nthe system gave another error\n"

-- the end of the line, and the line with the cause if it is known
abbrev pub line_after : Option ErrorKind → List ℕ
line_after None = codes "\n"
line_after (Some kind) = cause_line kind

-- the end of the line, and a line that says why a file must not be written over
abbrev pub conflict_line : Conflict → List ℕ
conflict_line IsRead = codes "\nit is one of the files that are read\n"
conflict_line IsStandardOutput = codes "\nit is the pipe that the report is written to\n"
conflict_line IsWritten = codes "\nit is another output of this run\n"
conflict_line IsDash = codes "\nstandard output is /dev/stdout\n"

-- ---- messages

-- a file cannot be read
abbrev pub unread_text : List ℕ → ErrorKind → List ℕ
unread_text path kind =
    (codes "cannot read " ++ (shown_name path ++ cause_line kind)) ++ dash_line path

-- a file or an output cannot be written
abbrev pub unwritten_text : List ℕ → Option ErrorKind → List ℕ
unwritten_text name cause = codes "cannot write " ++ (shown_name name ++ line_after cause)

-- a file must not be written over
abbrev pub conflict_text : List ℕ → Conflict → List ℕ
conflict_text path conflict = codes "cannot write " ++ (shown_name path ++ conflict_line conflict)
