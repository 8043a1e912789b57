mod Digits
mod Wording
mod Filing
mod Causes
mod Answering
