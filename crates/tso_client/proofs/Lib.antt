mod Taking
mod Posting
mod Slipping
mod Hearing
